-- Lists in which nothing stands twice.
use Rattle.std.specs.Prelude.{ℕ, ◌==◌, Bool, true, not, ◌&&◌, List, [], ◌∷◌, ◌++◌, filter, if◌then◌else◌}
use Rattle.std.specs.List.{list_any}

module _ {T : Type 0} (same : T → T → Bool) where
  abbrev pub has : List T → T → Bool
  has xs x = list_any (λ y. same x y) xs

  abbrev pub without : T → List T → List T
  without x ys = filter (λ y. not (same x y)) ys

  -- each item once, where it stands first
  abbrev pub firsts : List T → List T
  firsts [] = []
  firsts (x ∷ xs) = x ∷ without x (firsts xs)

  -- the list with an item at its end, if the item isn't there yet
  abbrev pub with_one : List T → T → List T
  with_one xs x = if has xs x then xs else xs ++ x ∷ []

  -- the list with each item of another put so at its end
  abbrev pub with_all : List T → List T → List T
  with_all xs [] = xs
  with_all xs (y ∷ ys) = with_all (with_one xs y) ys

  -- no item stands twice
  abbrev pub is_distinct : List T → Bool
  is_distinct [] = true
  is_distinct (x ∷ xs) = not (has xs x) && is_distinct xs

abbrev pub same_number : ℕ → ℕ → Bool
same_number x y = x == y
