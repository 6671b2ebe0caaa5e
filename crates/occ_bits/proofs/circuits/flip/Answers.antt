use Rattle.std.proofs.Common.{◌≡◌, not, get_or, length, subst, arith}
use Rattle.occ_dd.specs.Store.{has}
use Rattle.occ_bits.specs.Circuits.{HasBits, no_set}
use Rattle.occ_bits.proofs.Ends.{turned_word}
use Rattle.occ_bits.proofs.circuits.flip.Goals as goal

pub returns-clause-flipped : goal.returns-clause-flipped
returns-clause-flipped c =
    let at_end : c.loop-digit.digit-index ≡ length c.args.digits.now = omega (arith, c.loop-digit-test.false, c.loop-digit.auto.digit-index-end) in
    turned_word c.args.store.now c.loop-digit.store c.args.digits.now c.loop-digit.word
    (subst (λ n. HasBits c.loop-digit.store n c.loop-digit.word (λ i x. not (has c.args.store.now (get_or c.args.digits.now i no_set) x))) at_end c.loop-digit.invariant.bits)
