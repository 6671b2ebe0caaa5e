use Rattle.occ_norm_frame.specs.Maps.{Extends}
use Rattle.occ_norm_frame.specs.Changes.{IsSupport}
use Rattle.occ_norm_frame.proofs.changes.support.Given as goal

abbrev pub invariant-loop-bit : goal.invariant-loop-bit
invariant-loop-bit l = record {
  extends : Extends l.fn.world l.world;
  support : IsSupport l.world l.bit l.fn.map l.bits;
}
