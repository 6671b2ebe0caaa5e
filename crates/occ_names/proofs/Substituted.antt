-- The value in the place of a variable.
use Rattle.std.proofs.Common.{◌≡◌, ℕ, suc, ◌+◌, ◌<◌, ◌≤◌, ◌==◌, Bool, true, false, cond, not, nat_lt, Some, None, List, [], ◌∷◌, length, get_or, position, refl, sym, ap, ◌∙◌, arith}
use Rattle.std.specs.List.{position_or_len}
use Rattle.std.proofs.lemmas.Bool.{ltb-true, ltb-false}
use Rattle.occ_syntax.specs.declared.expr.Expr.{Expr}
use Rattle.occ_syntax.specs.Tree.{Exp, variable}
use Rattle.occ_syntax.specs.View.{exp, exps}
use Rattle.occ_meaning.specs.Substitution.{value_for}

at_step : (b : Bool) (w v : Expr) (vs : List Expr) (m : ℕ) (rest : Exp) → (b ≡ false → exp (get_or vs m v) ≡ rest) → exp (get_or (w ∷ vs) (cond (not b) (1 + m) 0) v) ≡ cond b (exp w) rest
at_step true w v vs m rest f = refl
at_step false w v vs m rest f =
    let e : 1 + m ≡ suc m = omega arith in
    ap (λ n. exp (get_or (w ∷ vs) n v)) e ∙ f refl

below_step : (b : Bool) (m n : ℕ) → cond (not b) (1 + m) 0 < suc n → b ≡ false → m < n
below_step true m n h e = cc
below_step false m n h e = omega arith

value_at : (xs : List ℕ) (vs : List Expr) (y : ℕ) (v : Expr) → position_or_len (λ x. y == x) xs < length xs → length xs ≡ length vs
    → exp (get_or vs (position_or_len (λ x. y == x) xs) v) ≡ value_for xs (exps vs) y
value_at [] vs y v h e = absurd (omega arith)
value_at (x ∷ xs) [] y v h e = absurd (omega arith)
value_at (x ∷ xs) (w ∷ vs) y v h e =
    at_step (y == x) w v vs (position_or_len (λ x. y == x) xs) (value_for xs (exps vs) y)
    (λ f. value_at xs vs y v (below_step (y == x) (position_or_len (λ x. y == x) xs) (length xs) h f) (omega arith))

found_at : (b : Bool) (m n : ℕ) → cond b (Some m) None ≡ Some n → (b ≡ true) × (m ≡ n)
found_at true m n e = (refl, cc)
found_at false m n e = cc

pub value_found : (xs : List ℕ) (vs : List Expr) (y n : ℕ) (v : Expr) → position (λ x. y == x) xs ≡ Some n → v ≡ get_or vs n v → length xs ≡ length vs → exp v ≡ value_for xs (exps vs) y
value_found xs vs y n v e f g =
    let found = found_at (nat_lt (position_or_len (λ x. y == x) xs) (length xs)) (position_or_len (λ x. y == x) xs) n e in
    ap exp f ∙ ap (λ i. exp (get_or vs i v)) (sym found.1) ∙ value_at xs vs y v (ltb-true _ _ found.0) g

none_step : (b : Bool) (m n : ℕ) (w r : Exp) (s : Exp) → suc n ≤ cond (not b) (1 + m) 0 → (n ≤ m → r ≡ s) → cond b w r ≡ s
none_step true m n w r s h f = absurd (omega arith)
none_step false m n w r s h f = f (omega arith)

value_none_at : (xs : List ℕ) (es : List Exp) (y : ℕ) → length xs ≤ position_or_len (λ x. y == x) xs → value_for xs es y ≡ variable y
value_none_at [] es y h = refl
value_none_at (x ∷ xs) [] y h = refl
value_none_at (x ∷ xs) (e ∷ es) y h =
    none_step (y == x) (position_or_len (λ x. y == x) xs) (length xs) e (value_for xs es y) (variable y) h (λ k. value_none_at xs es y k)

missing_at : (b : Bool) (m : ℕ) → cond b (Some m) None ≡ None → b ≡ false
missing_at true m e = cc
missing_at false m e = refl

pub value_none : (xs : List ℕ) (es : List Exp) (y : ℕ) → position (λ x. y == x) xs ≡ None → value_for xs es y ≡ variable y
value_none xs es y e = value_none_at xs es y (ltb-false _ _ (missing_at (nat_lt (position_or_len (λ x. y == x) xs) (length xs)) (position_or_len (λ x. y == x) xs) e))
