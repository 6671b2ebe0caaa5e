-- How many items the lists of parts have.
use Rattle.std.proofs.Common.{◌≡◌, List, [], ◌∷◌, length, refl, arith}
use Rattle.occ_law_alt.specs.occ_law.Lists.{count, size, tally}
use Rattle.occ_syntax.specs.declared.expr.Expr.{Expr}
use Rattle.occ_syntax.specs.declared.expr.Guard.{Guard}
use Rattle.occ_syntax.specs.declared.proc.Proc.{Proc}
use Rattle.occ_syntax.specs.View.{branches, cases, trees}

pub trees_long : (ps : List Proc) → size (trees ps) ≡ length ps
trees_long [] = refl
trees_long (p ∷ ps) = omega (arith, trees_long ps)

pub cases_long : (cs : List (Expr × Proc)) → count (cases cs) ≡ length cs
cases_long [] = refl
cases_long (c ∷ cs) = omega (arith, cases_long cs)

pub branches_long : (gs : List (Guard × Proc)) → tally (branches gs) ≡ length gs
branches_long [] = refl
branches_long (g ∷ gs) = omega (arith, branches_long gs)
