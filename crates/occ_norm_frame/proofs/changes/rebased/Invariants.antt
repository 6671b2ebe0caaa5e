use Rattle.std.proofs.Common.{◌-◌, ◌^◌}
use Rattle.std.specs.Int.Bits.{bit_and}
use Rattle.occ_follow.specs.Sequence.{HasNodes}
use Rattle.occ_norm_frame.specs.Maps.{Extends}
use Rattle.occ_norm_frame.specs.Changes.{IsChanged}
use Rattle.occ_norm_frame.proofs.changes.rebased.Given as goal

abbrev pub invariant-loop-bit : goal.invariant-loop-bit
invariant-loop-bit l = record {
  extends : Extends l.fn.world l.world;
  nodes : HasNodes l.world l.rebased;
  changed : IsChanged l.world (λ x. bit_and x (bit_and l.fn.bits (2 ^ l.bit - 1))) l.fn.map l.rebased;
}
