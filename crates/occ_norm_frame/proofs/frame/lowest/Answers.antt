use Rattle.std.proofs.Common.{◌+◌, arith}
use Rattle.occ_norm_frame.proofs.FrameBits.{all_more, pow_more, set_below}
use Rattle.occ_norm_frame.proofs.frame.lowest.Goals as goal

pub loop-bit-preserved : goal.loop-bit-preserved
loop-bit-preserved c = record {
  within = set_below c.loop-bit.bits c.loop-bit.bit (c.loop-bit.bit + 1) (omega arith) (omega arith) (pow_more c.loop-bit.bit (c.loop-bit.bit + 1) c.loop-bit.bits (omega arith) c.loop-bit.invariant.within);
  all = all_more c.loop-bit.bits c.loop-bit.bit (omega arith) c.loop-bit.invariant.all;
}
