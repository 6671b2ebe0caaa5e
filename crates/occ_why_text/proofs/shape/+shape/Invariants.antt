use Rattle.std.proofs.Common.{◌≤◌, length}
use Rattle.occ_run.specs.View.{control, controls}
use Rattle.occ_run.proofs.Sizes.{size, sizes}
use Rattle.occ_why_text.proofs.shape.+shape.Given as goal

abbrev pub decreases-shape : goal.decreases-shape
decreases-shape l = size (control l.control.now)

abbrev pub decreases-shapes : goal.decreases-shapes
decreases-shapes l = sizes (controls l.parts.now)

abbrev pub invariant-shapes-loop-rest : goal.invariant-shapes-loop-rest
invariant-shapes-loop-rest l = sizes (controls l.rest) ≤ sizes (controls l.parts)

abbrev pub decreases-shapes-loop-rest : goal.decreases-shapes-loop-rest
decreases-shapes-loop-rest l = length l.rest
