use Rattle.occ_norm_frame.specs.Maps.{Extends}
use Rattle.occ_norm_assign.proofs.writes.is_above.Given as goal

abbrev pub invariant-loop-below : goal.invariant-loop-below
invariant-loop-below l = record {
  extends : Extends l.fn.world l.world;
}
