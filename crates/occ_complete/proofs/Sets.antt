-- Lists with the same elements, lists of lists in one, and what is decided of lists of numbers.
use Rattle.std.proofs.Common.{◌≡◌, ℕ, ◌<◌, List, [], ◌∷◌, ◌++◌, map, refl, sym, ap, subst, inl, inr, ◌⊎◌, arith}
use Rattle.std.proofs.lemmas.Bool.{cases_order}
use Rattle.std.specs.List.{AllByRecursion}
use Rattle.occ_complete_states.specs.occ_nform_table.Lists.{In}
use Rattle.occ_complete_states.proofs.from_target_laws.Lists.{in_either, in_left, in_right}

-- ---- the same elements

abbrev pub Within : {A : Type 0} → List A → List A → Type 0
Within {A} xs ys = (x : A) → In x xs → In x ys

pub record Same {A : Type 0} (xs ys : List A) : Type 0 where
  pub there : Within xs ys
  pub back : Within ys xs

pub both_within : {A : Type 0} (xs ys zs : List A) → Within xs zs → Within ys zs → Within (xs ++ ys) zs
both_within xs ys zs f g x i = elim (in_either xs ys x i) [ inl k ↦ f x k | inr k ↦ g x k ]

pub same_back : {A : Type 0} {xs ys : List A} → Same xs ys → Same ys xs
same_back s = record { there = s.back; back = s.there }

pub same_on : {A : Type 0} {xs ys zs : List A} → Same xs ys → Same ys zs → Same xs zs
same_on s t = record { there = λ x i. t.there x (s.there x i); back = λ x i. s.back x (t.back x i) }

pub same_both : {A : Type 0} (xs ys us vs : List A) → Same xs ys → Same us vs → Same (xs ++ us) (ys ++ vs)
same_both xs ys us vs s t = record {
  there = both_within xs us (ys ++ vs) (λ x i. in_left ys vs x (s.there x i)) (λ x i. in_right ys vs x (t.there x i));
  back = both_within ys vs (xs ++ us) (λ x i. in_left xs us x (s.back x i)) (λ x i. in_right xs us x (t.back x i));
}

pub same_itself : {A : Type 0} (xs : List A) → Same xs xs
same_itself xs = record { there = λ x i. i; back = λ x i. i }

turned_within : {A : Type 0} (xs ys zs : List A) → Within (xs ++ (ys ++ zs)) (ys ++ (xs ++ zs))
turned_within xs ys zs = both_within xs (ys ++ zs) (ys ++ (xs ++ zs)) (λ x i. in_right ys (xs ++ zs) x (in_left xs zs x i))
    (both_within ys zs (ys ++ (xs ++ zs)) (in_left ys (xs ++ zs)) (λ x i. in_right ys (xs ++ zs) x (in_right xs zs x i)))

-- the first and the second of three lists in each other's place
pub same_turned : {A : Type 0} (xs ys zs : List A) → Same (xs ++ (ys ++ zs)) (ys ++ (xs ++ zs))
same_turned xs ys zs = record { there = turned_within xs ys zs; back = turned_within ys xs zs }

-- an element that is there already
pub same_more : {A : Type 0} (x : A) (xs : List A) → In x xs → Same xs (x ∷ xs)
same_more x xs i = record { there = λ y j. inr j; back = λ y j. elim j [ inl e ↦ subst (λ z. In z xs) (sym e) i | inr k ↦ k ] }

-- some that are there already
pub same_within : {A : Type 0} (xs ys : List A) → Within xs ys → Same (xs ++ ys) ys
same_within xs ys f = record { there = both_within xs ys ys f (λ x i. i); back = in_right xs ys }

pub record IsSplit {A : Type 0} (x : A) (xs : List A) : Type 0 where
  pub front : List A
  pub rest : List A
  pub form : xs ≡ front ++ x ∷ rest

pub split_in : {A : Type 0} (x : A) (xs : List A) → In x xs → IsSplit x xs
split_in x [] i = absurd i
split_in x (y ∷ ys) (inl e) = record { front = []; rest = ys; form = ap (λ z. z ∷ ys) (sym e) }
split_in x (y ∷ ys) (inr i) = let r = split_in x ys i in record { front = y ∷ r.front; rest = r.rest; form = ap (λ l. y ∷ l) r.form }

pub all_of : {A : Type 0} (P : A → Type 0) (xs : List A) → ((x : A) → In x xs → P x) → AllByRecursion P xs
all_of P [] f = tt
all_of P (x ∷ xs) f = (f x (inl refl), all_of P xs (λ y i. f y (inr i)))

-- ---- lists of lists in one

abbrev pub flat : {A B : Type 0} → (A → List B) → List A → List B
flat f [] = []
flat f (x ∷ xs) = f x ++ flat f xs

pub in_flat : {A B : Type 0} (f : A → List B) (xs : List A) (x : A) (y : B) → In x xs → In y (f x) → In y (flat f xs)
in_flat f [] x y i j = absurd i
in_flat f (z ∷ xs) x y (inl e) j = in_left (f z) (flat f xs) y (subst (λ u. In y (f u)) e j)
in_flat f (z ∷ xs) x y (inr i) j = in_right (f z) (flat f xs) y (in_flat f xs x y i j)

pub flat_in : {A B : Type 0} (f : A → List B) (xs : List A) (y : B) → In y (flat f xs) → (x : A) × In x xs × In y (f x)
flat_in f [] y i = absurd i
flat_in {A} f (z ∷ xs) y i = go (in_either (f z) (flat f xs) y i) (λ k. flat_in f xs y k)
  where
    go : In y (f z) ⊎ In y (flat f xs) → (In y (flat f xs) → (x : A) × In x xs × In y (f x)) → (x : A) × In x (z ∷ xs) × In y (f x)
    go (inl k) ih = (z, inl refl, k)
    go (inr k) ih = let found = ih k in (found.0, inr found.1, found.2)

pub flat_same : {A B : Type 0} (f : A → List B) (xs ys : List A) → Same xs ys → Same (flat f xs) (flat f ys)
flat_same f xs ys s = record {
  there = λ y i. let k = flat_in f xs y i in in_flat f ys k.0 y (s.there k.0 k.1) k.2;
  back = λ y i. let k = flat_in f ys y i in in_flat f xs k.0 y (s.back k.0 k.1) k.2;
}

-- lists of one element each
pub flat_ones : {A B : Type 0} (f : A → B) (xs : List A) → flat (λ x. f x ∷ []) xs ≡ map f xs
flat_ones f [] = refl
flat_ones f (x ∷ xs) = ap (λ l. f x ∷ l) (flat_ones f xs)

pub flat_mapped : {A B C : Type 0} (f : B → List C) (g : A → B) (xs : List A) → flat (λ x. f (g x)) xs ≡ flat f (map g xs)
flat_mapped f g [] = refl
flat_mapped f g (x ∷ xs) = ap (λ l. f (g x) ++ l) (flat_mapped f g xs)

-- ---- what is decided

abbrev pub Decided : Type 0 → Type 0
Decided P = P ⊎ (P → ⊥)

number_in : (n : ℕ) (l : List ℕ) → Decided (In n l)
number_in n [] = inr (λ i. i)
number_in n (m ∷ l) = go (cases_order n m) (number_in n l)
  where
    other : (n ≡ m → ⊥) → Decided (In n l) → Decided (In n (m ∷ l))
    other f (inl i) = inl (inr i)
    other f (inr g) = inr (λ j. elim j [ inl e ↦ f e | inr k ↦ g k ])

    go : (n ≡ m) ⊎ ((n < m) ⊎ (m < n)) → Decided (In n l) → Decided (In n (m ∷ l))
    go (inl e) d = inl (inl e)
    go (inr (inl h)) d = other (λ e. omega (arith, h, e)) d
    go (inr (inr h)) d = other (λ e. omega (arith, h, e)) d

pub numbers_within : (k l : List ℕ) → Decided (Within k l)
numbers_within [] l = inl (λ x i. absurd i)
numbers_within (n ∷ k) l = go (number_in n l) (numbers_within k l)
  where
    go : Decided (In n l) → Decided (Within k l) → Decided (Within (n ∷ k) l)
    go (inl i) (inl f) = inl (λ x j. elim j [ inl e ↦ subst (λ z. In z l) (sym e) i | inr u ↦ f x u ])
    go (inl i) (inr g) = inr (λ f. g (λ x j. f x (inr j)))
    go (inr g) d = inr (λ f. g (f n (inl refl)))
