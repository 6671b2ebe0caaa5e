use Rattle.std.proofs.Common.{◌≡◌, take}
use Rattle.occ_syntax.specs.View.{exps}
use Rattle.occ_syntax.proofs.expr.copy_exprs.Given as goal

abbrev pub invariant-loop-expr : goal.invariant-loop-expr
invariant-loop-expr l = exps l.copy.items ≡ exps (take l.expr-index l.exprs)
