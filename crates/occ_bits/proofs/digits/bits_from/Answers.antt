use Rattle.std.proofs.Common.{◌≡◌, arith}
use Rattle.occ_bits.proofs.Values.{row_word}
use Rattle.occ_bits.proofs.digits.bits_from.Goals as goal

pub returns-clause-word : goal.returns-clause-word
returns-clause-word c =
    let at_end : c.loop-k.k ≡ c.args.count = omega (arith, c.from-k-end.ensures, c.loop-k-test.false, c.loop-k.auto.k-end) in
    row_word c.loop-k.store c.args.first c.args.count c.loop-k.k c.loop-k.word at_end c.loop-k.invariant.bits
