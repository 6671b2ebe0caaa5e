-- Lists of names and of expressions without what belongs to one variable, item by item.
use Rattle.std.specs.Prelude.{ℕ, ◌≡◌, ◌==◌, List, ◌∷◌, Option, None, Some, if◌then◌else◌}
use Rattle.std.specs.Borrow.{Bor}
use Rattle.occ_syntax.specs.occ_base.declared.names.Name.{Name}
use Rattle.occ_syntax.specs.declared.expr.Expr.{Expr}
use Rattle.occ_syntax.specs.Tree.{Exp}
use Rattle.occ_syntax.specs.View.{exps, numbers}

-- an item in front of a list, unless it belongs to the variable x
abbrev pub unless_of : {A : Type 0} → ℕ → ℕ → A → List A → List A
unless_of x y item rest = if x == y then rest else item ∷ rest

-- what stands in a list of names behind the name y, where that isn't x
abbrev pub IsNameRest : ℕ → ℕ → List Name → Option (Bor (List Name)) → Type 0
IsNameRest x y all None = (rest : List ℕ) → numbers all ≡ unless_of x y y rest → ⊥
IsNameRest x y all (Some found) = numbers all ≡ unless_of x y y (numbers found.now)

-- what stands in a list of expressions behind the right side of y, where y isn't x
abbrev pub IsValueRest : ℕ → ℕ → Exp → List Expr → Option (Bor (List Expr)) → Type 0
IsValueRest x y e all None = (rest : List Exp) → exps all ≡ unless_of x y e rest → ⊥
IsValueRest x y e all (Some found) = exps all ≡ unless_of x y e (exps found.now)
