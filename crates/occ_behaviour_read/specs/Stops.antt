-- The first faulty line of a text of some kind.
use Rattle.std.specs.Prelude.{ℕ, suc, ◌<◌, ◌≡◌, ◌++◌, max, List, length, take}

-- lines that are in front of a text of the kind
abbrev pub GoesOn : (List (List ℕ) → Type 0) → List (List ℕ) → Type 0
GoesOn Is front = (rest : List (List ℕ)) × Is (front ++ rest)

-- The first line, counted from 1, behind which no text of the kind goes on. A text that ends too early is faulty on its last line, or on
-- line 1 where it has none.
pub data StopsAt (Is : List (List ℕ) → Type 0) (lines : List (List ℕ)) (line : ℕ) : Type 0 where
  within : (n : ℕ) → n < length lines → GoesOn Is (take n lines) → (GoesOn Is (take (suc n) lines) → ⊥) → line ≡ suc n
      → StopsAt Is lines line
  too_early : GoesOn Is lines → (Is lines → ⊥) → line ≡ max (length lines) 1 → StopsAt Is lines line
