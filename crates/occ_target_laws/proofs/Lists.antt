-- What belongs to lists that are joined or mapped, and lists that increase by a number.
use Rattle.std.proofs.Common.{◌≡◌, ℕ, ◌<◌, nat_lt, List, [], ◌∷◌, ◌++◌, map, Option, Some, refl, sym, ap, ◌∙◌, inl, inr, ◌⊎◌, arith}
use Rattle.std.proofs.lemmas.Bool.{ltb-true}
use Rattle.occ_target.proofs.from_nform_table.Lists.{Chain, In, chain_less}
use Rattle.occ_target.proofs.from_nform_table.Orders.{numbers_strict}

pub in_either : {A : Type 0} (xs ys : List A) (x : A) → In x (xs ++ ys) → In x xs ⊎ In x ys
in_either [] ys x i = inr i
in_either {A} (z ∷ xs) ys x i = go i (in_either xs ys x)
  where
    go : (x ≡ z) ⊎ In x (xs ++ ys) → (In x (xs ++ ys) → In x xs ⊎ In x ys) → ((x ≡ z) ⊎ In x xs) ⊎ In x ys
    go (inl e) ih = inl (inl e)
    go (inr j) ih = elim (ih j) [ inl k ↦ inl (inr k) | inr k ↦ inr k ]

pub in_left : {A : Type 0} (xs ys : List A) (x : A) → In x xs → In x (xs ++ ys)
in_left [] ys x i = absurd i
in_left (z ∷ xs) ys x (inl e) = inl e
in_left (z ∷ xs) ys x (inr i) = inr (in_left xs ys x i)

pub in_right : {A : Type 0} (xs ys : List A) (x : A) → In x ys → In x (xs ++ ys)
in_right [] ys x i = i
in_right (z ∷ xs) ys x i = inr (in_right xs ys x i)

pub in_map : {A B : Type 0} (f : A → B) (xs : List A) (x : A) → In x xs → In (f x) (map f xs)
in_map f [] x i = absurd i
in_map f (y ∷ xs) x (inl e) = inl (ap f e)
in_map f (y ∷ xs) x (inr i) = inr (in_map f xs x i)

-- an item of a mapped list is the image of one
pub map_in : {A B : Type 0} (f : A → B) (xs : List A) (y : B) → In y (map f xs) → (x : A) × In x xs × (y ≡ f x)
map_in f [] y i = absurd i
map_in f (x ∷ xs) y (inl e) = (x, inl refl, e)
map_in f (x ∷ xs) y (inr i) = let found = map_in f xs y i in (found.0, inr found.1, found.2)

pub none_in : {A : Type 0} (xs : List A) → ((x : A) → In x xs → ⊥) → xs ≡ []
none_in [] f = refl
none_in (x ∷ xs) f = absurd (f x (inl refl))

-- items of a list that increases by a number are told by that number
module _ {A : Type 0} (key : A → ℕ) where
  apart : (x y : A) (xs : List A) → Chain (λ a b. nat_lt (key a) (key b)) (Some x) xs → In y xs → key x < key y
  apart x y xs h i = ltb-true (key x) (key y) (chain_less (λ a b. nat_lt (key a) (key b)) (numbers_strict key) x xs h y i)

  pub one_by_key : (before : Option A) (xs : List A) → Chain (λ a b. nat_lt (key a) (key b)) before xs → (x y : A) → In x xs → In y xs → key x ≡ key y → x ≡ y
  one_by_key before [] h x y i j e = absurd i
  one_by_key before (z ∷ xs) h x y (inl f) (inl g) e = f ∙ sym g
  one_by_key before (z ∷ xs) h x y (inl f) (inr j) e = absurd (omega (arith, apart z y xs h.1 j, ap key f, e))
  one_by_key before (z ∷ xs) h x y (inr i) (inl g) e = absurd (omega (arith, apart z x xs h.1 i, ap key g, e))
  one_by_key before (z ∷ xs) h x y (inr i) (inr j) e = one_by_key (Some z) xs h.1 x y i j e
