-- What belongs to lists that are joined or mapped, and to the offers of a set.
use Rattle.std.proofs.Common.{◌≡◌, ◌<◌, ℕ, zero, suc, Bool, true, false, cond, List, [], ◌∷◌, ◌++◌, drop, get_or, length, map, refl, ap, subst, inl, inr, ◌⊎◌, arith}
use Rattle.std.specs.List.{All}
use Rattle.occ_syntax.specs.occ_base.declared.event.Event.{Event}
use Rattle.occ_tool_run.specs.occ_nform_table.Lists.{In}
use Rattle.occ_tool_run.proofs.from_nform_table.Lists.{place_of_in}
use Rattle.occ_tool_run.specs.occ_target.Rows.{begins_with, chosen}

pub in_right : {A : Type 0} (xs ys : List A) (x : A) → In x ys → In x (xs ++ ys)
in_right [] ys x i = i
in_right (z ∷ xs) ys x i = inr (in_right xs ys x i)

pub in_left : {A : Type 0} (xs ys : List A) (x : A) → In x xs → In x (xs ++ ys)
in_left [] ys x i = absurd i
in_left (z ∷ xs) ys x (inl e) = inl e
in_left (z ∷ xs) ys x (inr i) = inr (in_left xs ys x i)

pub in_either : {A : Type 0} (xs ys : List A) (x : A) → In x (xs ++ ys) → In x xs ⊎ In x ys
in_either [] ys x i = inr i
in_either (z ∷ xs) ys x (inl e) = inl (inl e)
in_either (z ∷ xs) ys x (inr i) = elim (in_either xs ys x i) [ inl k ↦ inl (inr k) | inr k ↦ inr k ]

-- an item of a mapped list is the image of one
pub map_in : {A B : Type 0} (f : A → B) (xs : List A) (y : B) → In y (map f xs) → (x : A) × In x xs × (y ≡ f x)
map_in f [] y i = absurd i
map_in f (x ∷ xs) y (inl e) = (x, inl refl, e)
map_in f (x ∷ xs) y (inr i) = let found = map_in f xs y i in (found.0, inr found.1, found.2)

pub in_map : {A B : Type 0} (f : A → B) (xs : List A) (x : A) → In x xs → In (f x) (map f xs)
in_map f [] x i = absurd i
in_map f (y ∷ xs) x (inl e) = inl (ap f e)
in_map f (y ∷ xs) x (inr i) = inr (in_map f xs x i)

-- what stands at a place of a list is in it
pub stands_in : {A : Type 0} (xs : List A) (i : ℕ) (d : A) → i < length xs → In (get_or xs i d) xs
stands_in [] i d h = absurd (omega (arith, h))
stands_in (x ∷ xs) zero d h = inl refl
stands_in (x ∷ xs) (suc i) d h = inr (stands_in xs i d (omega (arith, h)))

-- what all have, each has
pub each : {A : Type 0} (P : A → Type 0) (xs : List A) (x : A) → All P xs → In x xs → P x
each P xs x all i = let at = place_of_in x xs x i in subst P at.2 (all at.0 x at.1)

-- what is chosen is one of the offers
pub chosen_in : (set : List Event) (offers : List (Event × ℕ)) (o : Event × ℕ) → In o (chosen set offers) → In o offers
unfolding chosen
chosen_in set [] o i = absurd i
chosen_in set (x ∷ offers) o i = by (begins_with set x.0) (chosen_in (drop 1 set) offers o) (chosen_in set offers o) i
  where
    by : (b : Bool) → (In o (chosen (drop 1 set) offers) → In o offers) → (In o (chosen set offers) → In o offers)
        → In o (cond b (x ∷ chosen (drop 1 set) offers) (chosen set offers)) → In o (x ∷ offers)
    by true one two (inl e) = inl e
    by true one two (inr j) = inr (one j)
    by false one two j = inr (two j)
