use Rattle.std.proofs.Common.{◌≡◌, ◌↔◌, true, length}
use Rattle.occ_syntax.specs.View.{exps}
use Rattle.occ_law.specs.States.{EachEqual}
use Rattle.occ_law_shape.specs.Types.{agree_each}
use Rattle.occ_law_shape.proofs.state_lists.each_equal.Given as goal

-- equal so far
abbrev pub invariant-loop-rest : goal.invariant-loop-rest
invariant-loop-rest g l = record {
  same : EachEqual (g.E.Equality.equals l.equality) (exps l.rest) (exps l.other_rest) ↔ EachEqual (g.E.Equality.equals l.equality) (exps l.left) (exps l.right);
  types : agree_each (g.E.Equality.environment l.equality) (exps l.rest) (exps l.other_rest) ≡ true;
}

abbrev pub decreases-loop-rest : goal.decreases-loop-rest
decreases-loop-rest g l = length l.rest
