use Rattle.std.proofs.Common.{arith}
use Rattle.occ_bits.proofs.from_dd.Callers.{keeps_refl, keeps_trans}
use Rattle.occ_norm_frame.proofs.Worlds.{zeros_all, zeros_more, zeros_none}
use Rattle.occ_norm_frame.proofs.simple.zeros.Goals as goal

pub loop-bit-preserved : goal.loop-bit-preserved
loop-bit-preserved c = record {
  keeps = keeps_trans c.args.store.now c.loop-bit.store c.with_zero.new.store c.loop-bit.invariant.keeps c.with_zero.ensures.keeps;
  zeros = zeros_more c.args.bits c.loop-bit.bit c.loop-bit.store c.with_zero.new.store c.loop-bit.zeros c.in_ok-smaller.smaller c.loop-bit.invariant.zeros c.in_ok-smaller.ensures.set;
}

pub loop-bit-init : goal.loop-bit-init
loop-bit-init c = record { keeps = keeps_refl c.args.store.now; zeros = zeros_none c.args.bits c.args.store.now c.full-zeros.result c.full-zeros.ensures }

pub returns-clause-zeros : goal.returns-clause-zeros
returns-clause-zeros c = zeros_all c.args.bits c.loop-bit.bit c.loop-bit.store c.loop-bit.zeros (omega (arith, c.loop-bit-test.false)) c.loop-bit.invariant.zeros
