use Rattle.std.proofs.Common.{◌↔◌, length}
use Rattle.occ_law_scope.specs.Input.{OtherInput}
use Rattle.occ_syntax.specs.View.{branches}
use Rattle.occ_law_scope.proofs.input.is_other_input.Given as goal

-- the branches so far are the same
abbrev pub invariant-loop-rest : goal.invariant-loop-rest
invariant-loop-rest l = OtherInput l.name.0 (branches l.rest) (branches l.other_rest) ↔ OtherInput l.name.0 (branches l.alternatives) (branches l.others)

abbrev pub decreases-loop-rest : goal.decreases-loop-rest
decreases-loop-rest l = length l.rest
