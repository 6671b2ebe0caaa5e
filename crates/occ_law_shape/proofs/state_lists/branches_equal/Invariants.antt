use Rattle.std.proofs.Common.{◌≡◌, ◌↔◌, true, length}
use Rattle.occ_syntax.specs.Types.{branches_kept}
use Rattle.occ_syntax.specs.View.{branches}
use Rattle.occ_law.specs.States.{BranchesEqual}
use Rattle.occ_law_shape.proofs.state_lists.branches_equal.Given as goal

-- equal so far
abbrev pub invariant-loop-rest : goal.invariant-loop-rest
invariant-loop-rest g l = record {
  same : BranchesEqual (g.E.Equality.equals l.equality) (branches l.rest) (branches l.other_rest) ↔ BranchesEqual (g.E.Equality.equals l.equality) (branches l.left) (branches l.right);
  left : branches_kept (branches l.rest) (g.E.Equality.environment l.equality) ≡ true;
  right : branches_kept (branches l.other_rest) (g.E.Equality.environment l.equality) ≡ true;
}

abbrev pub decreases-loop-rest : goal.decreases-loop-rest
decreases-loop-rest g l = length l.rest
