-- A declaration of an array declares a place again where some entry declares one of its elements.
use Rattle.std.specs.Prelude.{ℕ, zero, suc, ◌≡◌, ◌==◌, ◌+◌, nat_lt, Bool, true, false, ◌&&◌, ◌||◌, if◌then◌else◌, List, [], ◌∷◌, Option, Some, is_some}
use Rattle.std.specs.List.{list_any}
use Rattle.std.proofs.Common.{refl, sym, ap, ◌∙◌, arith}
use Rattle.std.proofs.lemmas.Bool.{eqb-true, ltb-true, lt-ltb, and_parts, and_from}
use Rattle.occ_parse_forms.specs.declared.form.Declared.{Declared}
use Rattle.occ_parse_forms.specs.declared.form.Declared.TheVariants as declared
use Rattle.occ_parse_rules.specs.declared.sort.Sort.{Sort}
use Rattle.occ_parse_rules.specs.Names.{is_there}
use Rattle.occ_parse_rules.specs.Places.{Place, Sorts, declares, elements_from, numbers_from, sort_at}
use Rattle.occ_parse_scopes.specs.Chain.{declares_below, has_elements_below}
use Rattle.occ_parse_scopes.proofs.Facts.{same_truth, at_itself, any_at, any_from}
use Rattle.occ_parse_scopes.proofs.Reaches.{among_from, among_to}

any_or : {A : Type 0} (f g : A → Bool) (xs : List A) → list_any (λ x. f x || g x) xs ≡ (list_any f xs || list_any g xs)
any_or f g [] = refl
any_or f g (x ∷ xs) = ap (λ b. (f x || g x) || b) (any_or f g xs) ∙ mixed (f x) (g x) (list_any f xs) (list_any g xs)
  where
    mixed : (a b c d : Bool) → ((a || b) || (c || d)) ≡ ((a || c) || (b || d))
    mixed true b c d = refl
    mixed false true true d = refl
    mixed false true false d = refl
    mixed false false c d = refl

any_never : {A : Type 0} (xs : List A) → list_any (λ x. false) xs ≡ false
any_never [] = refl
any_never (x ∷ xs) = any_never xs

any_and : (b : Bool) (f : ℕ → Bool) (xs : List ℕ) → list_any (λ x. b && f x) xs ≡ (b && list_any f xs)
any_and true f xs = refl
any_and false f xs = any_never xs

elements_any : (g : Place → Bool) (x k n : ℕ) → list_any g (elements_from x k n) ≡ list_any (λ i. g (record { name = x; element = Some i })) (numbers_from k n)
elements_any g x k zero = refl
elements_any g x k (suc n) = ap (λ b. g (record { name = x; element = Some k }) || b) (elements_any g x (k + 1) n)

one_below : (j n : ℕ) → list_any (λ i. i == j) (numbers_from 0 n) ≡ nat_lt j n
one_below j n = same_truth (list_any (λ i. i == j) (numbers_from 0 n)) (nat_lt j n)
    (λ h.
    let w = any_from (λ i. i == j) (numbers_from 0 n) h in
    let a = among_from w.0 0 n w.1 in
    let e = eqb-true w.0 j w.2 in
    lt-ltb j n (omega (arith, a.1)))
    (λ h. let l = ltb-true j n h in any_at (λ i. i == j) (numbers_from 0 n) j (among_to j 0 n (omega arith) (omega arith)) (at_itself j))

some_below : (m n : ℕ) → list_any (λ i. nat_lt i m) (numbers_from 0 n) ≡ (nat_lt 0 m && nat_lt 0 n)
some_below m n = same_truth (list_any (λ i. nat_lt i m) (numbers_from 0 n)) (nat_lt 0 m && nat_lt 0 n)
    (λ h.
    let w = any_from (λ i. nat_lt i m) (numbers_from 0 n) h in
    let a = among_from w.0 0 n w.1 in
    let l = ltb-true w.0 m w.2 in
    and_from (nat_lt 0 m) (nat_lt 0 n) (lt-ltb 0 m (omega arith)) (lt-ltb 0 n (omega (arith, a.1))))
    (λ h.
    let k = and_parts (nat_lt 0 m) (nat_lt 0 n) h in
    let l = ltb-true 0 n k.1 in
    any_at (λ i. nat_lt i m) (numbers_from 0 n) 0 (among_to 0 0 n (omega arith) (omega arith)) k.0)

below_is : (d : Declared) (x n : ℕ) → list_any (λ i. declares d x (Some i)) (numbers_from 0 n) ≡ declares_below x n d
below_is (declared.Plain y) x n = any_never (numbers_from 0 n)
below_is (declared.Element y j) x n = any_and (x == y.0) (λ i. i == j) (numbers_from 0 n) ∙ ap (λ b. x == y.0 && b) (one_below j n)
below_is (declared.Array y m) x n = any_and (x == y.0) (λ i. nat_lt i m) (numbers_from 0 n) ∙ ap (λ b. x == y.0 && b) (some_below m n)

either_is : (b : Bool) (s : Sort) (o : Option Sort) → is_some (if b then Some s else o) ≡ (b || is_some o)
either_is true s o = refl
either_is false s o = refl

-- an array's elements that are in scope already
pub there_below : (Γ : Sorts) (x n : ℕ) → list_any (is_there Γ) (elements_from x 0 n) ≡ has_elements_below Γ x n
there_below [] x n = any_never (elements_from x 0 n)
there_below (entry ∷ Γ) x n =
    elements_any (is_there (entry ∷ Γ)) x 0 n
    ∙ ap (λ f. list_any f (numbers_from 0 n)) (λ k i. either_is (declares entry.declared x (Some i)) entry.sort (sort_at Γ x (Some i)) k)
    ∙ any_or (λ i. declares entry.declared x (Some i)) (λ i. is_some (sort_at Γ x (Some i))) (numbers_from 0 n)
    ∙ (λ k. below_is entry.declared x n k || (sym (elements_any (is_there Γ) x 0 n) ∙ there_below Γ x n) k)
