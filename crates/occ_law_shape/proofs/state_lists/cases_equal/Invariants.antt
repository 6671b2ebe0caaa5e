use Rattle.std.proofs.Common.{◌≡◌, ◌↔◌, true, length}
use Rattle.occ_syntax.specs.Types.{cases_kept}
use Rattle.occ_syntax.specs.View.{cases}
use Rattle.occ_law.specs.States.{CasesEqual}
use Rattle.occ_law_shape.proofs.state_lists.cases_equal.Given as goal

-- equal so far
abbrev pub invariant-loop-rest : goal.invariant-loop-rest
invariant-loop-rest g l = record {
  same : CasesEqual (g.E.Equality.equals l.equality) (cases l.rest) (cases l.other_rest) ↔ CasesEqual (g.E.Equality.equals l.equality) (cases l.left) (cases l.right);
  left : cases_kept (cases l.rest) (g.E.Equality.environment l.equality) ≡ true;
  right : cases_kept (cases l.other_rest) (g.E.Equality.environment l.equality) ≡ true;
}

abbrev pub decreases-loop-rest : goal.decreases-loop-rest
decreases-loop-rest g l = length l.rest
