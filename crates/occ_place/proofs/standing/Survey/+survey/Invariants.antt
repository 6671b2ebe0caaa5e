use Rattle.std.proofs.Common.{◌≤◌, length}
use Rattle.occ_run.specs.View.{control, controls}
use Rattle.occ_run.proofs.Sizes.{size, sizes}
use Rattle.occ_place.proofs.standing.Survey.+survey.Given as goal

abbrev pub decreases-control : goal.decreases-control
decreases-control l = size (control l.control.now)

abbrev pub decreases-parts : goal.decreases-parts
decreases-parts l = sizes (controls l.parts.now)

abbrev pub invariant-parts-loop-rest : goal.invariant-parts-loop-rest
invariant-parts-loop-rest l = sizes (controls l.rest) ≤ sizes (controls l.parts)

abbrev pub decreases-parts-loop-rest : goal.decreases-parts-loop-rest
decreases-parts-loop-rest l = length l.rest
