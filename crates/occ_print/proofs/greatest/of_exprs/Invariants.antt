use Rattle.std.proofs.Common.{◌≡◌, drop}
use Rattle.occ_print.specs.Greatest.{greatest_of_exps}
use Rattle.occ_syntax.specs.View.{exps}
use Rattle.occ_print.proofs.greatest.of_exprs.Given as goal

-- the expressions that are left, with the greatest so far
abbrev pub invariant-loop-expr : goal.invariant-loop-expr
invariant-loop-expr l = greatest_of_exps (exps (drop l.expr-index l.list)) l.found ≡ greatest_of_exps (exps l.list) l.most
