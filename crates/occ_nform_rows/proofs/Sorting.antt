-- Lists without ties that a sort puts into order, and numbers in order.
use Rattle.std.proofs.Common.{◌≡◌, ◌≤◌, ◌+◌, ◌==◌, ℕ, true, false, cond, List, [], ◌∷◌, refl, sym, ap, ◌∙◌, subst, arith, ⊎_elim, eqb}
use Rattle.std.specs.List.{Contains, list_all, dedup, dedup_from, sum_by, AllByRecursion}
use Rattle.std.specs.List.Sorted.{IsSorted, IsStrictlySortedBy, IsPermutation}
use Rattle.std.specs.Cmp.{IsTotalOrder, nat_cmp_total, unsigned_ties}
use Rattle.std.specs.Cmp.Lexicographic.{slice_cmp}
use Rattle.std.specs.Ordering.{is_lt, is_eq, eq_by_cmp, nat_cmp, ordering_then}
use Rattle.std.specs.declared.cmp.Ordering.{Ordering}
use Rattle.std.specs.declared.cmp.Ordering.TheVariants.{Less, Equal, Greater}
use Rattle.std.proofs.lemmas.Bool.{and_from, or_parts, cases_Bool, false≢true, eqb-true}
use Rattle.std.proofs.Common.{eq-eqb, get_or}
use Rattle.std.proofs.lemmas.List.Kept.{IsStrictlySortedBy-dedup, Contains-dedup_nat, Contains-from_dedup}
use Rattle.std.proofs.lemmas.List.Sorted.{list_any-IsPermutation, sum_by-IsPermutation}
use Rattle.std.proofs.lemmas.List.Sums.{sum_by-cons}
use Rattle.std.proofs.lemmas.List.Folds.{Any-from_list_any, list_any-from_Any}
use Rattle.occ_compare.specs.occ_accept.Order.{strict, is_in}
use Rattle.occ_compare.proofs.from_accept.Strict.{IsExact, equal_is, same_tests, tied_same}
use Rattle.occ_nform_rows.specs.Ends.{has_number}

all_less : {A : Type 0} (R : A → A → Ordering) (x : A) (xs : List A) → AllByRecursion (λ y. R x y ≡ Less) xs → list_all (λ y. is_lt (R x y)) xs ≡ true
all_less R x [] h = refl
all_less R x (y ∷ ys) h = and_from (is_lt (R x y)) (list_all (λ y. is_lt (R x y)) ys) (ap is_lt h.0) (all_less R x ys h.1)

pub strict_from : {A : Type 0} (R : A → A → Ordering) (xs : List A) → IsStrictlySortedBy R xs → strict R xs ≡ true
unfolding IsStrictlySortedBy
strict_from R [] h = refl
strict_from R (x ∷ xs) h = and_from (list_all (λ y. is_lt (R x y)) xs) (strict R xs) (all_less R x xs h.0) (strict_from R xs h.1)

module _ {A : Type 0} {R : A → A → Ordering} (o : IsTotalOrder R) where
  -- 1 for an item that ties with x
  abbrev pub tie : A → A → ℕ
  tie x y = cond (eq_by_cmp R y x) 1 0

  -- no item ties with more than one
  abbrev pub AreOnce : List A → Type 0
  AreOnce xs = (x : A) → sum_by (tie x) xs ≤ 1

  once_rest : (x : A) (xs : List A) → AreOnce (x ∷ xs) → AreOnce xs
  once_rest x xs h y = let cons : sum_by (tie y) (x ∷ xs) ≡ tie y x + sum_by (tie y) xs = sum_by-cons (tie y) x xs in omega (arith, h y)

  apart_first : (x y : A) (xs : List A) → AreOnce (x ∷ y ∷ xs) → eq_by_cmp R y x ≡ true → eq_by_cmp R x x ≡ true → ⊥
  apart_first x y xs h e f =
      let one : sum_by (tie x) (x ∷ y ∷ xs) ≡ tie x x + sum_by (tie x) (y ∷ xs) = sum_by-cons (tie x) x (y ∷ xs) in
      let two : sum_by (tie x) (y ∷ xs) ≡ tie x y + sum_by (tie x) xs = sum_by-cons (tie x) y xs in
      let a : tie x x ≡ 1 = ap (λ b. cond b 1 0) f in
      let b : tie x y ≡ 1 = ap (λ b. cond b 1 0) e in
      omega (arith, h x)

  same_dedup : ((x : A) → eq_by_cmp R x x ≡ true) → (x : A) (xs : List A) → AreOnce (x ∷ xs) → dedup_from (eq_by_cmp R) x xs ≡ x ∷ xs
  same_dedup tied x [] h = refl
  same_dedup tied x (y ∷ xs) h = ⊎_elim
      (λ (e : eq_by_cmp R y x ≡ true). absurd (apart_first x y xs h e (tied x)))
      (λ (e : eq_by_cmp R y x ≡ false). ap (λ b. cond b (dedup_from (eq_by_cmp R) x xs) (x ∷ dedup_from (eq_by_cmp R) y xs)) e ∙ ap (λ l. x ∷ l) (same_dedup tied y xs (once_rest x (y ∷ xs) h)))
      (cases_Bool (eq_by_cmp R y x))

  all_once : ((x : A) → eq_by_cmp R x x ≡ true) → (xs : List A) → AreOnce xs → dedup (eq_by_cmp R) xs ≡ xs
  all_once tied [] h = refl
  all_once tied (x ∷ xs) h = same_dedup tied x xs h

  -- items that are in order, none of which ties with another, increase
  pub sorted_strict : ((x : A) → eq_by_cmp R x x ≡ true) → (xs ys : List A) → AreOnce xs → IsPermutation xs ys → IsSorted R ys → strict R ys ≡ true
  sorted_strict tied xs ys once moved sorted =
      let once_too : AreOnce ys = λ x. subst (λ n. n ≤ 1) (sym (sum_by-IsPermutation (tie x) xs ys moved)) (once x) in
      strict_from R ys (subst (IsStrictlySortedBy R) (all_once tied ys once_too) (IsStrictlySortedBy-dedup o {E = eq_by_cmp R} (λ x y. refl) ys sorted))

  -- what is in a list for its order by another test is in it once
  abbrev pub AreAlone : List A → Type 0
  AreAlone [] = Unit {0}
  AreAlone (x ∷ xs) = (is_in R xs x ≡ false) × AreAlone xs

  none_tied : ((x y : A) → eq_by_cmp R x y ≡ eq_by_cmp R y x) → (x : A) (xs : List A) → is_in R xs x ≡ false → sum_by (tie x) xs ≡ 0
  none_tied turned x [] h = refl
  none_tied turned x (y ∷ ys) h =
      let p = or_parts (eq_by_cmp R x y) (is_in R ys x) h in
      let rest : sum_by (tie x) ys ≡ 0 = none_tied turned x ys p.1 in
      let one : tie x y ≡ 0 = ap (λ b. cond b 1 0) (turned y x ∙ p.0) in
      sum_by-cons (tie x) y ys ∙ (λ i. one i + rest i)

  pub alone_once : ((x y : A) → eq_by_cmp R x y ≡ eq_by_cmp R y x) → IsExact R → (xs : List A) → AreAlone xs → AreOnce xs
  alone_once turned exact [] h x = omega arith
  alone_once turned exact (y ∷ ys) h x =
      let cons : sum_by (tie x) (y ∷ ys) ≡ tie x y + sum_by (tie x) ys = sum_by-cons (tie x) y ys in
      let most : sum_by (tie x) ys ≤ 1 = alone_once turned exact ys h.1 x in
      ⊎_elim
      (λ (e : eq_by_cmp R y x ≡ true).
      let same : y ≡ x = tied_same o exact y x e in
      let none : sum_by (tie x) ys ≡ 0 = none_tied turned x ys (ap (is_in R ys) (sym same) ∙ h.0) in
      let one : tie x y ≡ 1 = ap (λ b. cond b 1 0) e in
      omega arith)
      (λ (e : eq_by_cmp R y x ≡ false).
      let one : tie x y ≡ 0 = ap (λ b. cond b 1 0) e in
      omega arith)
      (cases_Bool (eq_by_cmp R y x))

-- ---- ties of lists
then_equal : (r s : Ordering) → is_eq (ordering_then r s) ≡ true → (is_eq r ≡ true) × (is_eq s ≡ true)
then_equal Less s e = absurd (false≢true e)
then_equal Equal s e = (refl, e)
then_equal Greater s e = absurd (false≢true e)

lists_same : {A : Type 0} {R : A → A → Ordering} → IsExact R → (xs ys : List A) → is_eq (slice_cmp R xs ys) ≡ true → xs ≡ ys
lists_same {A} {R} exact [] [] h = refl
lists_same {A} {R} exact [] (y ∷ ys) h = absurd (false≢true h)
lists_same {A} {R} exact (x ∷ xs) [] h = absurd (false≢true h)
lists_same {A} {R} exact (x ∷ xs) (y ∷ ys) h =
    let p = then_equal (R x y) (slice_cmp R xs ys) h in
    let first : x ≡ y = exact x y (equal_is (R x y) p.0) in
    let rest : xs ≡ ys = lists_same exact xs ys p.1 in
    λ i. first i ∷ rest i

pub lists_exact : {A : Type 0} {R : A → A → Ordering} → IsExact R → IsExact (slice_cmp R)
lists_exact exact xs ys h = lists_same exact xs ys (ap is_eq h)

-- ---- numbers
pub numbers_strict : (xs ys : List ℕ) → IsSorted nat_cmp xs → ys ≡ dedup eqb xs → strict nat_cmp ys ≡ true
numbers_strict xs ys sorted is = strict_from nat_cmp ys (subst (IsStrictlySortedBy nat_cmp) (sym is) (IsStrictlySortedBy-dedup nat_cmp_total {E = eqb} unsigned_ties xs sorted))

number_there : (xs : List ℕ) (k : ℕ) → has_number xs k ≡ true → Contains xs k
number_there xs k h =
    let w = Any-from_list_any (λ n. n == k) xs h in
    let same : w.1 ≡ k = eqb-true w.1 k w.4 in
    (w.0, w.2, subst (λ (n : ℕ). get_or xs w.0 n ≡ n) same w.3)

there_number : (xs : List ℕ) (k : ℕ) → Contains xs k → has_number xs k ≡ true
there_number xs k w = list_any-from_Any (λ n. n == k) xs (w.0, k, w.1, w.2, eq-eqb k k refl)

pub numbers_kept : (xs ys zs : List ℕ) → IsPermutation xs ys → zs ≡ dedup eqb ys → (k : ℕ) → has_number zs k ≡ has_number xs k
numbers_kept xs ys zs moved is k = ap (λ l. has_number l k) is
    ∙ same_tests (has_number (dedup eqb ys) k) (has_number ys k)
    (λ h. there_number ys k (Contains-from_dedup eqb ys k (number_there (dedup eqb ys) k h)))
    (λ h. there_number (dedup eqb ys) k (Contains-dedup_nat ys k (number_there ys k h)))
    ∙ sym (list_any-IsPermutation (λ n. n == k) xs ys moved)
