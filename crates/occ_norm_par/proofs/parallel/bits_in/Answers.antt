use Rattle.std.proofs.Common.{◌+◌, get_or, ap, ◌∙◌}
use Rattle.std.specs.Int.Bits.{bit_or}
use Rattle.occ_norm_par.proofs.Writing.{bits_more_in, bits_none}
use Rattle.occ_norm_par.proofs.parallel.bits_in.Goals as goal

pub loop-next-init : goal.loop-next-init
loop-next-init c = bits_none c.args.writes.now c.args.place

pub loop-next-preserved : goal.loop-next-preserved
loop-next-preserved c = ap (λ b. bit_or b (get_or c.args.writes.now (c.args.place + c.loop-next.next) 0)) c.loop-next.invariant ∙ bits_more_in c.args.writes.now c.args.place c.loop-next.next
