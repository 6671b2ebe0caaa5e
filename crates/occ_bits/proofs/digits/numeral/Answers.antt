use Rattle.std.proofs.Common.{◌≡◌, arith}
use Rattle.occ_bits.proofs.Values.{numeral_word}
use Rattle.occ_bits.proofs.digits.numeral.Goals as goal

pub returns : goal.returns
returns c =
    let at_end : c.loop-k.k ≡ c.args.bits = omega (arith, c.loop-k-test.false, c.loop-k.auto.k-end) in
    numeral_word c.args.store.now c.args.bits c.loop-k.k c.args.value c.loop-k.word at_end c.requires.value c.loop-k.invariant
