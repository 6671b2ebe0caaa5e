-- Lists are sorted, and equal elements stand once.
use Rattle.std.proofs.Common.{◌≡◌, ◌∙◌, ℕ, nat_lt, Bool, true, false, ◌&&◌, ◌==◌, cond, List, [], ◌∷◌, Option, None, Some, refl, sym, ap, subst, inl, inr, ◌⊎◌}
use Rattle.std.proofs.lemmas.Bool.{cases_order, eq-eqb, lt-ltb, or_parts}
use Rattle.occ_complete.proofs.Sets.{Same, Within}
use Rattle.occ_complete_states.specs.occ_nform_table.Judging.{follows, text_less}
use Rattle.occ_complete_states.specs.occ_nform_table.Lists.{Chain, In}

module _ {A : Type 0} (less : A → A → Bool) where
  abbrev pub insert : A → List A → List A
  insert x [] = x ∷ []
  insert x (y ∷ ys) = cond (less x y) (x ∷ y ∷ ys) (cond (less y x) (y ∷ insert x ys) (y ∷ ys))

  abbrev pub sorted : List A → List A
  sorted [] = []
  sorted (x ∷ xs) = insert x (sorted xs)

  chain_insert : (before : Option A) (x : A) (xs : List A) → follows less before x ≡ true → Chain less before xs → Chain less before (insert x xs)
  chain_insert before x [] f c = (f, tt)
  chain_insert before x (y ∷ ys) f c = at (less x y) (less y x) refl refl (λ g. chain_insert (Some y) x ys g c.1)
    where
      at : (b d : Bool) → less x y ≡ b → less y x ≡ d → (less y x ≡ true → Chain less (Some y) (insert x ys))
          → Chain less before (cond b (x ∷ y ∷ ys) (cond d (y ∷ insert x ys) (y ∷ ys)))
      at true d e g ih = (f, (e, c.1))
      at false true e g ih = (c.0, ih g)
      at false false e g ih = c

  pub sorted_chain : (xs : List A) → Chain less None (sorted xs)
  sorted_chain [] = tt
  sorted_chain (x ∷ xs) = chain_insert None x (sorted xs) refl (sorted_chain xs)

  -- ---- the same elements

  inserted : (x : A) (xs : List A) (z : A) → In z (insert x xs) → (z ≡ x) ⊎ In z xs
  inserted x [] z i = i
  inserted x (y ∷ ys) z i = at (less x y) (less y x) i (λ j. inserted x ys z j)
    where
      behind : (z ≡ x) ⊎ In z ys → (z ≡ x) ⊎ In z (y ∷ ys)
      behind (inl e) = inl e
      behind (inr k) = inr (inr k)

      at : (b d : Bool) → In z (cond b (x ∷ y ∷ ys) (cond d (y ∷ insert x ys) (y ∷ ys))) → (In z (insert x ys) → (z ≡ x) ⊎ In z ys) → (z ≡ x) ⊎ In z (y ∷ ys)
      at true d j ih = j
      at false true (inl e) ih = inr (inl e)
      at false true (inr j) ih = behind (ih j)
      at false false j ih = inr j

  still : (x : A) (xs : List A) (z : A) → In z xs → In z (insert x xs)
  still x [] z i = absurd i
  still x (y ∷ ys) z i = at (less x y) (less y x) i (λ j. still x ys z j)
    where
      at : (b d : Bool) → In z (y ∷ ys) → (In z ys → In z (insert x ys)) → In z (cond b (x ∷ y ∷ ys) (cond d (y ∷ insert x ys) (y ∷ ys)))
      at true d j ih = inr j
      at false true (inl e) ih = inl e
      at false true (inr j) ih = inr (ih j)
      at false false j ih = j

  module _ (P : A → Type 0) (total : (x y : A) → P x → P y → less x y ≡ false → less y x ≡ false → x ≡ y) where
    there_now : (x : A) (xs : List A) → P x → ((y : A) → In y xs → P y) → In x (insert x xs)
    there_now x [] p all = inl refl
    there_now x (y ∷ ys) p all = at (less x y) (less y x) refl refl (there_now x ys p (λ z i. all z (inr i)))
      where
        at : (b d : Bool) → less x y ≡ b → less y x ≡ d → In x (insert x ys) → In x (cond b (x ∷ y ∷ ys) (cond d (y ∷ insert x ys) (y ∷ ys)))
        at true d e g ih = inl refl
        at false true e g ih = inr ih
        at false false e g ih = inl (total x y p (all y (inl refl)) e g)

    within_sorted : (xs : List A) → Within (sorted xs) xs
    within_sorted [] x i = i
    within_sorted (y ∷ ys) x i = at (inserted y (sorted ys) x i) (within_sorted ys x)
      where
        at : (x ≡ y) ⊎ In x (sorted ys) → (In x (sorted ys) → In x ys) → In x (y ∷ ys)
        at (inl e) ih = inl e
        at (inr j) ih = inr (ih j)

    sorted_within : (xs : List A) → ((x : A) → In x xs → P x) → Within xs (sorted xs)
    sorted_within [] all x i = i
    sorted_within (y ∷ ys) all x (inl e) =
        subst (λ z. In z (insert y (sorted ys))) (sym e) (there_now y (sorted ys) (all y (inl refl)) (λ z i. all z (inr (within_sorted ys z i))))
    sorted_within (y ∷ ys) all x (inr i) = still y (sorted ys) x (sorted_within ys (λ z j. all z (inr j)) x i)

    pub same_sorted : (xs : List A) → ((x : A) → In x xs → P x) → Same xs (sorted xs)
    same_sorted xs all = record { there = sorted_within xs all; back = within_sorted xs }

-- ---- numbers and lists of them

not_both : (b : Bool) → b ≡ true → b ≡ false → ⊥
not_both true e f = cc
not_both false e f = cc

pub numbers_total : (x y : ℕ) → nat_lt x y ≡ false → nat_lt y x ≡ false → x ≡ y
numbers_total x y e f = elim (cases_order x y) [
  | inl g ↦ g
  | inr k ↦ elim k [ inl l ↦ absurd (not_both (nat_lt x y) (lt-ltb x y l) e) | inr l ↦ absurd (not_both (nat_lt y x) (lt-ltb y x l) f) ]
]

pub texts_total : (a b : List ℕ) → text_less a b ≡ false → text_less b a ≡ false → a ≡ b
unfolding text_less
texts_total [] [] e f = refl
texts_total [] (y ∷ b) e f = absurd (not_both true refl e)
texts_total (x ∷ a) [] e f = absurd (not_both true refl f)
texts_total (x ∷ a) (y ∷ b) e f =
    let p = or_parts (nat_lt x y) (x == y && text_less a b) e in
    let q = or_parts (nat_lt y x) (y == x && text_less b a) f in
    let first : x ≡ y = numbers_total x y p.0 q.0 in
    let rest : a ≡ b = texts_total a b (sym (ap (λ t. t && text_less a b) (eq-eqb x y first)) ∙ p.1) (sym (ap (λ t. t && text_less b a) (eq-eqb y x (sym first))) ∙ q.1) in
    λ i. first i ∷ rest i
