use Rattle.std.proofs.Common.{◌≡◌, length, take}
use Rattle.occ_syntax.specs.View.{exps}
use Rattle.occ_syntax.proofs.same.same_exprs.Given as goal

-- the expressions so far are the same
abbrev pub invariant-loop-expr : goal.invariant-loop-expr
invariant-loop-expr l = exps (take (length l.yielded) l.left) ≡ exps (take (length l.yielded) l.right)
