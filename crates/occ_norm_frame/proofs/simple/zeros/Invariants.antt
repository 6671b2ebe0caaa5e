use Rattle.occ_bits.specs.occ_dd.Store.{IsSet, Keeps}
use Rattle.occ_norm_frame.specs.Maps.{are_zero}
use Rattle.occ_norm_frame.proofs.simple.zeros.Given as goal

-- the bits so far are 0
abbrev pub invariant-loop-bit : goal.invariant-loop-bit
invariant-loop-bit l = record {
  keeps : Keeps l.fn.store l.store;
  zeros : IsSet l.store l.zeros (are_zero l.bit l.bits);
}
