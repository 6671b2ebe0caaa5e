use Rattle.std.proofs.Common.{arith}
use Rattle.occ_norm_frame.proofs.FrameBits.{row_more}
use Rattle.occ_norm_frame.proofs.frame.bits_from.Goals as goal

pub loop-digit-preserved : goal.loop-digit-preserved
loop-digit-preserved c k h = row_more c.args.first c.loop-digit.digit c.loop-digit.bits k (omega (arith, c.from-digit-end.ensures)) (c.loop-digit.invariant k h)
