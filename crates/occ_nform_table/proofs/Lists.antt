-- What belongs to a list, and lists that increase strictly in an order.
use Rattle.std.proofs.Common.{◌≡◌, ℕ, zero, suc, ◌<◌, Bool, true, List, [], ◌∷◌, length, get_or, Option, Some, refl, sym, ◌∙◌, subst, inl, inr, ◌⊎◌, arith}
use Rattle.std.proofs.lemmas.Bool.{and_from, and_parts, or_cases, or_left, or_right, false≢true}
use Rattle.std.specs.List.{list_all, list_any, AllByRecursion}
use Rattle.occ_nform_table.specs.declared.table.TableRow.{TableRow}
use Rattle.occ_nform_table.specs.Behaviours.{row_at}
pub use Rattle.occ_nform_table.specs.Lists.{Chain, In}

-- ---- membership
pub in_all : {A : Type 0} (P : A → Type 0) (xs : List A) (x : A) → AllByRecursion P xs → In x xs → P x
in_all P [] x h k = absurd k
in_all P (y ∷ ys) x h (inl e) = subst P (sym e) h.0
in_all P (y ∷ ys) x h (inr k) = in_all P ys x h.1 k

pub test_in : {A : Type 0} (test : A → Bool) (xs : List A) (x : A) → list_all test xs ≡ true → In x xs → test x ≡ true
test_in test [] x h k = absurd k
test_in test (y ∷ ys) x h (inl e) = subst (λ z. test z ≡ true) (sym e) (and_parts (test y) (list_all test ys) h).0
test_in test (y ∷ ys) x h (inr k) = test_in test ys x (and_parts (test y) (list_all test ys) h).1 k

pub test_all : {A : Type 0} (test : A → Bool) (xs : List A) → ((x : A) → In x xs → test x ≡ true) → list_all test xs ≡ true
test_all test [] h = refl
test_all test (x ∷ xs) h = and_from (test x) (list_all test xs) (h x (inl refl)) (test_all test xs (λ y k. h y (inr k)))

pub in_any : {A : Type 0} (test : A → Bool) (xs : List A) (x : A) → In x xs → test x ≡ true → list_any test xs ≡ true
in_any test [] x k h = absurd k
in_any test (y ∷ ys) x (inl e) h = or_left (test y) (list_any test ys) (subst (λ z. test z ≡ true) e h)
in_any test (y ∷ ys) x (inr k) h = or_right (test y) (list_any test ys) (in_any test ys x k h)

pub any_in : {A : Type 0} (test : A → Bool) (xs : List A) → list_any test xs ≡ true → (x : A) × In x xs × (test x ≡ true)
any_in test [] h = absurd (false≢true h)
any_in {A} test (x ∷ xs) h = go (or_cases (test x) (list_any test xs) h) (λ k. any_in test xs k)
  where
    go : (test x ≡ true) ⊎ (list_any test xs ≡ true) → (list_any test xs ≡ true → (y : A) × In y xs × (test y ≡ true)) → (y : A) × In y (x ∷ xs) × (test y ≡ true)
    go (inl e) ih = (x, inl refl, e)
    go (inr k) ih = let found = ih k in (found.0, inr found.1, found.2)

-- an element has a place
pub place_of_in : {A : Type 0} (d : A) (xs : List A) (x : A) → In x xs → (k : ℕ) × (k < length xs) × (get_or xs k d ≡ x)
place_of_in d [] x k = absurd k
place_of_in d (y ∷ ys) x (inl e) = (0, omega arith, sym e)
place_of_in d (y ∷ ys) x (inr k) = let found = place_of_in d ys x k in (suc found.0, omega (arith, found.1), found.2)

-- ---- rows by their places
pub row_in : (rows : List TableRow) (i : ℕ) → i < length rows → In (row_at rows i) rows
row_in [] i h = absurd (omega (arith, h))
row_in (row ∷ rows) zero h = inl refl
row_in (row ∷ rows) (suc i) h = inr (row_in rows i (omega arith))

pub same_rows : (rows others : List TableRow) → length rows ≡ length others → ((i : ℕ) → i < length rows → row_at rows i ≡ row_at others i) → rows ≡ others
same_rows [] [] e h = refl
same_rows [] (other ∷ others) e h = absurd (omega (arith, e))
same_rows (row ∷ rows) [] e h = absurd (omega (arith, e))
same_rows (row ∷ rows) (other ∷ others) e h =
    let rest = same_rows rows others (omega (arith, e)) (λ i k. h (suc i) (omega arith)) in
    λ i. h 0 (omega arith) i ∷ rest i

-- ---- lists that increase strictly
pub record IsStrict {A : Type 0} (less : A → A → Bool) : Type 0 where
  pub never : (x : A) → less x x ≡ true → ⊥
  pub onward : (x y z : A) → less x y ≡ true → less y z ≡ true → less x z ≡ true

pub chain_less : {A : Type 0} (less : A → A → Bool) → IsStrict less → (x : A) (xs : List A) → Chain less (Some x) xs → (y : A) → In y xs → less x y ≡ true
chain_less less s x [] h y k = absurd k
chain_less less s x (z ∷ zs) h y (inl e) = subst (λ w. less x w ≡ true) (sym e) h.0
chain_less less s x (z ∷ zs) h y (inr k) = s.onward x z y h.0 (chain_less less s z zs h.1 y k)

-- two such lists with the same elements are one
module _ {A : Type 0} (less : A → A → Bool) (s : IsStrict less) where
  same_head : (x y : A) (xs ys : List A) → Chain less (Some x) xs → Chain less (Some y) ys → (x ≡ y) ⊎ In x ys → (y ≡ x) ⊎ In y xs → x ≡ y
  same_head x y xs ys h k (inl e) v = e
  same_head x y xs ys h k (inr u) (inl e) = sym e
  same_head x y xs ys h k (inr u) (inr v) = absurd (s.never x (s.onward x y x (chain_less less s x xs h y v) (chain_less less s y ys k x u)))

  behind_head : (x y z : A) (ys : List A) → x ≡ y → less x z ≡ true → (z ≡ y) ⊎ In z ys → In z ys
  behind_head x y z ys e l (inl f) = absurd (s.never x (subst (λ w. less x w ≡ true) (f ∙ sym e) l))
  behind_head x y z ys e l (inr k) = k

  pub same_chains : (before other : Option A) (xs ys : List A) → Chain less before xs → Chain less other ys
      → ((z : A) → In z xs → In z ys) → ((z : A) → In z ys → In z xs) → xs ≡ ys
  same_chains before other [] [] h k f g = refl
  same_chains before other [] (y ∷ ys) h k f g = absurd (g y (inl refl))
  same_chains before other (x ∷ xs) [] h k f g = absurd (f x (inl refl))
  same_chains before other (x ∷ xs) (y ∷ ys) h k f g =
      let e : x ≡ y = same_head x y xs ys h.1 k.1 (f x (inl refl)) (g y (inl refl)) in
      let rest = same_chains (Some x) (Some y) xs ys h.1 k.1
      (λ z u. behind_head x y z ys e (chain_less less s x xs h.1 z u) (f z (inr u)))
      (λ z u. behind_head y x z xs (sym e) (chain_less less s y ys k.1 z u) (g z (inr u))) in
      λ i. e i ∷ rest i

-- in such a list of rows each row is before the later ones
pub chain_at : (less : TableRow → TableRow → Bool) → IsStrict less → (before : Option TableRow) (rows : List TableRow) → Chain less before rows
    → (i j : ℕ) → i < j → j < length rows → less (row_at rows i) (row_at rows j) ≡ true
chain_at less s before [] h i j lt within = absurd (omega (arith, within))
chain_at less s before (row ∷ rows) h zero zero lt within = absurd (omega (arith, lt))
chain_at less s before (row ∷ rows) h zero (suc j) lt within = chain_less less s row rows h.1 (row_at rows j) (row_in rows j (omega arith))
chain_at less s before (row ∷ rows) h (suc i) zero lt within = absurd (omega (arith, lt))
chain_at less s before (row ∷ rows) h (suc i) (suc j) lt within = chain_at less s (Some row) rows h.1 i j (omega arith) (omega arith)
