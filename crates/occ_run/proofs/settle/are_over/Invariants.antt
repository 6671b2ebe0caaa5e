use Rattle.std.proofs.Common.{◌≡◌, length}
use Rattle.occ_run_steps.specs.Control.{all_done}
use Rattle.occ_run.specs.View.{controls}
use Rattle.occ_run.proofs.settle.are_over.Given as goal

abbrev pub invariant-loop-rest : goal.invariant-loop-rest
invariant-loop-rest l = all_done (controls l.rest) ≡ all_done (controls l.parts)

abbrev pub decreases-loop-rest : goal.decreases-loop-rest
decreases-loop-rest l = length l.rest
