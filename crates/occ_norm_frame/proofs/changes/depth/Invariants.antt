use Rattle.occ_norm_frame.specs.Maps.{Extends}
use Rattle.occ_norm_frame.proofs.changes.depth.Given as goal

abbrev pub invariant-loop-place : goal.invariant-loop-place
invariant-loop-place l = record {
  extends : Extends l.fn.world l.world;
}
