use Rattle.occ_norm_frame.specs.Maps.{Extends}
use Rattle.occ_norm_assign.specs.Written.{AreFree}
use Rattle.occ_norm_assign.proofs.writes.are_apart.Given as goal

abbrev pub invariant-loop-place : goal.invariant-loop-place
invariant-loop-place l = record {
  extends : Extends l.fn.world l.world;
  free : AreFree l.fn.world.store l.writes l.place;
}
