use Rattle.std.proofs.Common.{◌≡◌, map, take}
use Rattle.occ_law_scope.specs.occ_meaning.Substitution.{substituted}
use Rattle.occ_syntax.specs.View.{exps, numbers}
use Rattle.occ_law_right.proofs.put_in.put_in_all.Given as goal

-- the right sides are put into the expressions so far
abbrev pub invariant-loop-expr : goal.invariant-loop-expr
invariant-loop-expr l = exps l.made ≡ map (substituted (numbers l.pairs.vars.now) (exps l.pairs.values.now)) (exps (take l.expr-index l.exprs))
