use Rattle.std.proofs.Common.{◌≡◌, ◌||◌, ◌&&◌, ℕ, zero, suc, ◌+◌, Bool, true, false, cond, List, [], ◌∷◌, refl, sym, ap, ◌∙◌, subst, ⊎_elim, arith}
use Rattle.std.proofs.lemmas.Bool.{and_parts, and_from, or_cases, or_parts, or_left, or_right, cases_Bool, both_ways, true≢false, false≢true, cond_both}
use Rattle.std.specs.List.{list_all, list_any, filter, insert, prefix_len}
use Rattle.std.specs.Cmp.{IsTotalOrder, tied_itself}
use Rattle.std.specs.Ordering.{is_lt, is_eq, eq_by_cmp, ordering_reverse}
use Rattle.std.specs.declared.cmp.Ordering.{Ordering}
use Rattle.std.specs.declared.cmp.Ordering.TheVariants.{Less, Equal, Greater}
use Rattle.occ_accept.specs.Order.{strict, is_in}

-- Lists that increase strictly, for any total order whose ties are equal.

abbrev pub IsExact : {A : Type 0} → (A → A → Ordering) → Type 0
IsExact {A} R = (x y : A) → R x y ≡ Equal → x ≡ y

-- ---- tests of an order
pub less-not_equal : (r : Ordering) → is_lt r ≡ true → is_eq r ≡ false
less-not_equal Less e = refl
less-not_equal Equal e = absurd (false≢true e)
less-not_equal Greater e = refl

pub equal_is : (r : Ordering) → is_eq r ≡ true → r ≡ Equal
equal_is Less e = absurd (false≢true e)
equal_is Equal e = refl
equal_is Greater e = absurd (false≢true e)

pub less_is : (r : Ordering) → is_lt r ≡ true → r ≡ Less
less_is Less e = refl
less_is Equal e = absurd (false≢true e)
less_is Greater e = absurd (false≢true e)

pub same_tests : (s t : Bool) → (s ≡ true → t ≡ true) → (t ≡ true → s ≡ true) → s ≡ t
same_tests true t f g = sym (f refl)
same_tests false true f g = g refl
same_tests false false f g = refl

pub or_skip : (a b : Bool) → a ≡ false → (a || b) ≡ b
or_skip a b h = ap (λ x. x || b) h

pub and_skip : (a b : Bool) → a ≡ true → (a && b) ≡ b
and_skip a b h = ap (λ x. x && b) h

or_swap : (a b c : Bool) → (a || (b || c)) ≡ (b || (a || c))
or_swap true true c = refl
or_swap true false c = refl
or_swap false b c = refl

and_swap : (a b c : Bool) → (a && (b && c)) ≡ (b && (a && c))
and_swap true b c = refl
and_swap false true c = refl
and_swap false false c = refl

and_true : (c : Bool) → (c && true) ≡ c
and_true true = refl
and_true false = refl

and_false : (c : Bool) → (c && false) ≡ false
and_false true = refl
and_false false = refl

-- ---- tests of lists
module _ {A : Type 0} where
  pub all_same : (p q : A → Bool) → ((x : A) → p x ≡ q x) → (xs : List A) → list_all p xs ≡ list_all q xs
  all_same p q h xs i = list_all (λ x. h x i) xs

  pub any_same : (p q : A → Bool) → ((x : A) → p x ≡ q x) → (xs : List A) → list_any p xs ≡ list_any q xs
  any_same p q h xs i = list_any (λ x. h x i) xs

  pub all_more : (p q : A → Bool) → ((x : A) → p x ≡ true → q x ≡ true) → (xs : List A) → list_all p xs ≡ true → list_all q xs ≡ true
  all_more p q h [] e = refl
  all_more p q h (x ∷ xs) e = let k = and_parts (p x) (list_all p xs) e in and_from (q x) (list_all q xs) (h x k.0) (all_more p q h xs k.1)

  pub any_more : (p q : A → Bool) → ((x : A) → p x ≡ true → q x ≡ true) → (xs : List A) → list_any p xs ≡ true → list_any q xs ≡ true
  any_more p q h [] e = e
  any_more p q h (x ∷ xs) e = ⊎_elim
      (λ (k : p x ≡ true). or_left (q x) (list_any q xs) (h x k))
      (λ (k : list_any p xs ≡ true). or_right (q x) (list_any q xs) (any_more p q h xs k))
      (or_cases (p x) (list_any p xs) e)

  pub all_filter : (p q : A → Bool) (xs : List A) → list_all p xs ≡ true → list_all p (filter q xs) ≡ true
  all_filter p q [] e = e
  all_filter p q (x ∷ xs) e = let k = and_parts (p x) (list_all p xs) e in
      cond_both (q x) (x ∷ filter q xs) (filter q xs) (λ ys. list_all p ys ≡ true) (λ _. and_from (p x) (list_all p (filter q xs)) k.0 (all_filter p q xs k.1)) (λ _. all_filter p q xs k.1)

  -- what a filter keeps passes it
  pub all_kept : (q : A → Bool) (xs : List A) → list_all q (filter q xs) ≡ true
  all_kept q [] = refl
  all_kept q (x ∷ xs) = cond_both (q x) (x ∷ filter q xs) (filter q xs) (λ ys. list_all q ys ≡ true) (λ h. and_from (q x) (list_all q (filter q xs)) h (all_kept q xs)) (λ _. all_kept q xs)

  pub any_filter : (p q : A → Bool) (xs : List A) → list_any p (filter q xs) ≡ list_any (λ x. p x && q x) xs
  any_filter p q [] = refl
  any_filter p q (x ∷ xs) = let rest : list_any p (filter q xs) ≡ list_any (λ x. p x && q x) xs = any_filter p q xs in
      ⊎_elim
      (λ (e : q x ≡ true). ap (λ c. list_any p (cond c (x ∷ filter q xs) (filter q xs))) e ∙ ap (λ n. p x || n) rest ∙ ap (λ n. n || list_any (λ x. p x && q x) xs) (sym (and_true (p x)) ∙ ap (λ c. p x && c) (sym e)))
      (λ (e : q x ≡ false). ap (λ c. list_any p (cond c (x ∷ filter q xs) (filter q xs))) e ∙ rest ∙ ap (λ n. n || list_any (λ x. p x && q x) xs) (sym (and_false (p x)) ∙ ap (λ c. p x && c) (sym e)))
      (cases_Bool (q x))

  pub any_insert : (p : A → Bool) (xs : List A) (i : ℕ) (x : A) → list_any p (insert xs i x) ≡ (p x || list_any p xs)
  any_insert p xs zero x = refl
  any_insert p [] (suc i) x = refl
  any_insert p (y ∷ ys) (suc i) x = ap (λ n. p y || n) (any_insert p ys i x) ∙ or_swap (p y) (p x) (list_any p ys)

  pub all_insert : (p : A → Bool) (xs : List A) (i : ℕ) (x : A) → list_all p (insert xs i x) ≡ (p x && list_all p xs)
  all_insert p xs zero x = refl
  all_insert p [] (suc i) x = refl
  all_insert p (y ∷ ys) (suc i) x = ap (λ n. p y && n) (all_insert p ys i x) ∙ and_swap (p y) (p x) (list_all p ys)

-- ---- a total order whose ties are equal
module _ {A : Type 0} {R : A → A → Ordering} (o : IsTotalOrder R) where
  pub tied : (x : A) → eq_by_cmp R x x ≡ true
  tied x = ap is_eq (tied_itself o x)

  pub above-not_in : (x : A) (xs : List A) → list_all (λ y. is_lt (R x y)) xs ≡ true → is_in R xs x ≡ false
  above-not_in x [] e = refl
  above-not_in x (y ∷ ys) e =
      let k = and_parts (is_lt (R x y)) (list_all (λ y. is_lt (R x y)) ys) e in
      or_skip (eq_by_cmp R x y) (is_in R ys x) (less-not_equal (R x y) k.0) ∙ above-not_in x ys k.1

  less_trans : (x y z : A) → is_lt (R x y) ≡ true → is_lt (R y z) ≡ true → is_lt (R x z) ≡ true
  less_trans x y z e f = ap is_lt (o.trans x y z (less_is (R x y) e) (less_is (R y z) f))

  pub above-above : (x y : A) (xs : List A) → is_lt (R x y) ≡ true → list_all (λ z. is_lt (R y z)) xs ≡ true → list_all (λ z. is_lt (R x z)) xs ≡ true
  above-above x y xs e = all_more (λ z. is_lt (R y z)) (λ z. is_lt (R x z)) (λ z h. less_trans x y z e h) xs

  pub strict_filter : (p : A → Bool) (xs : List A) → strict R xs ≡ true → strict R (filter p xs) ≡ true
  strict_filter p [] e = e
  strict_filter p (x ∷ xs) e =
      let k = and_parts (list_all (λ y. is_lt (R x y)) xs) (strict R xs) e in
      cond_both (p x) (x ∷ filter p xs) (filter p xs) (λ ys. strict R ys ≡ true)
      (λ _. and_from (list_all (λ y. is_lt (R x y)) (filter p xs)) (strict R (filter p xs)) (all_filter (λ y. is_lt (R x y)) p xs k.0) (strict_filter p xs k.1))
      (λ _. strict_filter p xs k.1)

  turned_less : (x y : A) → is_lt (R x y) ≡ false → eq_by_cmp R y x ≡ false → is_lt (R y x) ≡ true
  turned_less x y e f = by (R x y) (R y x) e f (o.antisymm x y)
    where
      by : (r s : Ordering) → is_lt r ≡ false → is_eq s ≡ false → r ≡ ordering_reverse s → is_lt s ≡ true
      by r Less e f h = refl
      by r Equal e f h = absurd (true≢false f)
      by r Greater e f h = absurd (true≢false (sym (ap is_lt h) ∙ e))

  -- a new item at its place leaves the list strict
  pub strict_insert : (xs : List A) (x : A) → strict R xs ≡ true → is_in R xs x ≡ false → strict R (insert xs (prefix_len (λ y. is_lt (R y x)) xs) x) ≡ true
  strict_insert [] x e n = refl
  strict_insert (y ∷ ys) x e n = by (strict_insert ys x k.1 m.1) (is_lt (R y x)) refl
    where
      k : (list_all (λ z. is_lt (R y z)) ys ≡ true) × (strict R ys ≡ true)
      k = and_parts (list_all (λ z. is_lt (R y z)) ys) (strict R ys) e

      m : (eq_by_cmp R x y ≡ false) × (is_in R ys x ≡ false)
      m = or_parts (eq_by_cmp R x y) (is_in R ys x) n

      place : ℕ
      place = prefix_len (λ z. is_lt (R z x)) ys

      by : strict R (insert ys place x) ≡ true → (b : Bool) → is_lt (R y x) ≡ b → strict R (insert (y ∷ ys) (cond (is_lt (R y x)) (1 + place) 0) x) ≡ true
      by rest true h =
          let e1 : 1 + place ≡ suc place = omega arith in
          let step : strict R (y ∷ insert ys place x) ≡ true =
          and_from (list_all (λ z. is_lt (R y z)) (insert ys place x)) (strict R (insert ys place x))
          (all_insert (λ z. is_lt (R y z)) ys place x ∙ and_from (is_lt (R y x)) (list_all (λ z. is_lt (R y z)) ys) h k.0)
          rest in
          subst (λ (c : Bool). strict R (insert (y ∷ ys) (cond c (1 + place) 0) x) ≡ true) (sym h)
          (subst (λ (n : ℕ). strict R (insert (y ∷ ys) n x) ≡ true) (sym e1) step)
      by rest false h =
          let less : is_lt (R x y) ≡ true = turned_less y x h m.0 in
          subst (λ (c : Bool). strict R (insert (y ∷ ys) (cond c (1 + place) 0) x) ≡ true) (sym h)
          (and_from (list_all (λ z. is_lt (R x z)) (y ∷ ys)) (strict R (y ∷ ys)) (and_from (is_lt (R x y)) (list_all (λ z. is_lt (R x z)) ys) less (above-above x y ys less k.0)) e)

  module _ (exact : IsExact R) where
    pub tied_same : (x y : A) → eq_by_cmp R x y ≡ true → x ≡ y
    tied_same x y e = exact x y (equal_is (R x y) e)

    -- what passes of all items passes of one
    pub all_at : (p : A → Bool) (xs : List A) (x : A) → list_all p xs ≡ true → is_in R xs x ≡ true → p x ≡ true
    all_at p [] x e h = absurd (false≢true h)
    all_at p (y ∷ ys) x e h =
        let k = and_parts (p y) (list_all p ys) e in
        ⊎_elim
        (λ (q : eq_by_cmp R x y ≡ true). ap p (tied_same x y q) ∙ k.0)
        (λ (q : is_in R ys x ≡ true). all_at p ys x k.1 q)
        (or_cases (eq_by_cmp R x y) (is_in R ys x) h)

    pub any_at : (p : A → Bool) (xs : List A) (x : A) → is_in R xs x ≡ true → p x ≡ true → list_any p xs ≡ true
    any_at p [] x h e = absurd (false≢true h)
    any_at p (y ∷ ys) x h e = ⊎_elim
        (λ (q : eq_by_cmp R x y ≡ true). or_left (p y) (list_any p ys) (sym (ap p (tied_same x y q)) ∙ e))
        (λ (q : is_in R ys x ≡ true). or_right (p y) (list_any p ys) (any_at p ys x q e))
        (or_cases (eq_by_cmp R x y) (is_in R ys x) h)

    pub all_each : (p : A → Bool) (xs : List A) → ((x : A) → is_in R xs x ≡ true → p x ≡ true) → list_all p xs ≡ true
    all_each p [] h = refl
    all_each p (y ∷ ys) h = and_from (p y) (list_all p ys) (h y (or_left (eq_by_cmp R y y) (is_in R ys y) (tied y))) (all_each p ys (λ x q. h x (or_right (eq_by_cmp R x y) (is_in R ys x) q)))

    -- some item passes: which one
    pub any_one : (p : A → Bool) (xs : List A) → list_any p xs ≡ true → (x : A) × (is_in R xs x ≡ true) × (p x ≡ true)
    any_one p [] e = absurd (false≢true e)
    any_one p (y ∷ ys) e = ⊎_elim
        (λ (q : p y ≡ true). (y, or_left (eq_by_cmp R y y) (is_in R ys y) (tied y), q))
        (λ (q : list_any p ys ≡ true). let w = any_one p ys q in (w.0, or_right (eq_by_cmp R w.0 y) (is_in R ys w.0) w.1, w.2))
        (or_cases (p y) (list_any p ys) e)

    same_tails : (x : A) (xs ys : List A) → is_in R xs x ≡ false → is_in R ys x ≡ false
        → ((e : A) → (eq_by_cmp R e x || is_in R xs e) ≡ (eq_by_cmp R e x || is_in R ys e)) → (e : A) → is_in R xs e ≡ is_in R ys e
    same_tails x xs ys p q h e = ⊎_elim
        (λ (t : eq_by_cmp R e x ≡ true). ap (is_in R xs) (tied_same e x t) ∙ p ∙ sym q ∙ ap (is_in R ys) (sym (tied_same e x t)))
        (λ (f : eq_by_cmp R e x ≡ false). sym (or_skip (eq_by_cmp R e x) (is_in R xs e) f) ∙ h e ∙ or_skip (eq_by_cmp R e x) (is_in R ys e) f)
        (cases_Bool (eq_by_cmp R e x))

    -- strict lists of the same items are equal
    pub same_strict : (xs ys : List A) → strict R xs ≡ true → strict R ys ≡ true → ((e : A) → is_in R xs e ≡ is_in R ys e) → xs ≡ ys
    same_strict [] [] e f h = refl
    same_strict [] (y ∷ ys) e f h = absurd (both_ways (is_in R (y ∷ ys) y) (sym (h y)) (or_left (eq_by_cmp R y y) (is_in R ys y) (tied y)))
    same_strict (x ∷ xs) [] e f h = absurd (both_ways (is_in R (x ∷ xs) x) (h x) (or_left (eq_by_cmp R x x) (is_in R xs x) (tied x)))
    same_strict (x ∷ xs) (y ∷ ys) e f h = by (same_strict xs ys k.1 m.1) (R x y) refl
      where
        k : (list_all (λ z. is_lt (R x z)) xs ≡ true) × (strict R xs ≡ true)
        k = and_parts (list_all (λ z. is_lt (R x z)) xs) (strict R xs) e

        m : (list_all (λ z. is_lt (R y z)) ys ≡ true) × (strict R ys ≡ true)
        m = and_parts (list_all (λ z. is_lt (R y z)) ys) (strict R ys) f

        by : (((e : A) → is_in R xs e ≡ is_in R ys e) → xs ≡ ys) → (r : Ordering) → R x y ≡ r → x ∷ xs ≡ y ∷ ys
        by rest Less q =
            let less : is_lt (R x y) ≡ true = ap is_lt q in
            let out : is_in R (y ∷ ys) x ≡ false = above-not_in x (y ∷ ys) (and_from (is_lt (R x y)) (list_all (λ z. is_lt (R x z)) ys) less (above-above x y ys less m.0)) in
            absurd (both_ways (is_in R (y ∷ ys) x) out (sym (h x) ∙ or_left (eq_by_cmp R x x) (is_in R xs x) (tied x)))
        by rest Equal q =
            let same : x ≡ y = exact x y q in
            let tails : xs ≡ ys = rest (same_tails x xs ys (above-not_in x xs k.0) (ap (is_in R ys) same ∙ above-not_in y ys m.0)
            (λ e. h e ∙ ap (λ z. eq_by_cmp R e z || is_in R ys e) (sym same))) in
            λ i. same i ∷ tails i
        by rest Greater q =
            let less : is_lt (R y x) ≡ true = ap is_lt (o.antisymm y x ∙ ap ordering_reverse q) in
            let out : is_in R (x ∷ xs) y ≡ false = above-not_in y (x ∷ xs) (and_from (is_lt (R y x)) (list_all (λ z. is_lt (R y z)) xs) less (above-above y x xs less k.0)) in
            absurd (both_ways (is_in R (x ∷ xs) y) out (h y ∙ or_left (eq_by_cmp R y y) (is_in R ys y) (tied y)))
