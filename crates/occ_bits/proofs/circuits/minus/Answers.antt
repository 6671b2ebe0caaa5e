use Rattle.occ_bits.proofs.Ends.{difference_word}
use Rattle.occ_bits.proofs.circuits.minus.Goals as goal

pub returns-clause-difference : goal.returns-clause-difference
returns-clause-difference c = difference_word c.args.store.now c.subtract.new.store c.args.left.now c.args.right.now c.in_ok-difference.difference c.in_ok-difference.field-0-1 c.requires.same c.in_ok-difference.ensures.difference
