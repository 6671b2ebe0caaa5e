use Rattle.occ_norm_frame.specs.Maps.{Extends}
use Rattle.occ_norm_assign.proofs.Writing.{AreWritten}
use Rattle.occ_norm_assign.proofs.run.writes_made.Given as goal

abbrev pub invariant-loop-place : goal.invariant-loop-place
invariant-loop-place l = record {
  extends : Extends l.fn.world l.world;
  written : AreWritten l.world l.digits l.place l.writes.items;
}
