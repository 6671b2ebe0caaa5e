use Rattle.std.proofs.Common.{◌≡◌, ◌<◌, length, get_or, arith}
use Rattle.occ_dd.proofs.Callers.{known-keeps, keeps_trans}
use Rattle.occ_bits.specs.Circuits.{no_set}
use Rattle.occ_bits.proofs.Steps.{difference_start, difference_more}
use Rattle.occ_bits.proofs.Ends.{difference_end}
use Rattle.occ_bits.proofs.circuits.subtract.Goals as goal

pub loop-k-init : goal.loop-k-init
loop-k-init c = rw c.new-difference.ensures (difference_start c.args.store.now c.args.left.now c.args.right.now c.empty-borrow.result c.empty-borrow.ensures)

pub take_digits-requires-clause-left : goal.take_digits-requires-clause-left
take_digits-requires-clause-left c = known-keeps c.args.store.now c.loop-k.store c.loop-k.invariant.keeps (get_or c.args.left.now c.loop-k.k no_set) (c.requires.left c.loop-k.k no_set c.loop-k-test.true)

pub take_digits-requires-clause-right : goal.take_digits-requires-clause-right
take_digits-requires-clause-right c =
    let within : c.loop-k.k < length c.args.right.now = omega (arith, c.requires.same, c.loop-k-test.true) in
    known-keeps c.args.store.now c.loop-k.store c.loop-k.invariant.keeps (get_or c.args.right.now c.loop-k.k no_set) (c.requires.right c.loop-k.k no_set within)

pub take_digits-requires-clause-borrow : goal.take_digits-requires-clause-borrow
take_digits-requires-clause-borrow c = c.loop-k.invariant.borrow_known

pub returns-in_err-digit-clause-keeps : goal.returns-in_err-digit-clause-keeps
returns-in_err-digit-clause-keeps c = keeps_trans c.args.store.now c.loop-k.store c.take_digits.new.store c.loop-k.invariant.keeps c.take_digits.ensures.keeps

pub push-requires : goal.push-requires
push-requires c = omega (arith, c.loop-k.invariant.digits, c.requires.few, c.loop-k-test.true)

pub loop-k-preserved : goal.loop-k-preserved
loop-k-preserved c = rw c.push.ensures (difference_more c.args.store.now c.loop-k.store c.take_digits.new.store c.args.left.now c.args.right.now c.loop-k.k c.loop-k.difference c.loop-k.borrow c.in_ok-digit.digit c.in_ok-digit.next
    c.requires.left c.requires.right c.requires.same c.loop-k-test.true c.loop-k.invariant c.take_digits.ensures.keeps c.in_ok-digit.ensures.taken)

pub returns-clause-keeps : goal.returns-clause-keeps
returns-clause-keeps c = c.loop-k.invariant.keeps

pub returns-clause-difference : goal.returns-clause-difference
returns-clause-difference c =
    let at_end : c.loop-k.k ≡ length c.args.left.now = omega (arith, c.loop-k-test.false, c.loop-k.auto.k-end) in
    difference_end c.args.store.now c.loop-k.store c.args.left.now c.args.right.now c.loop-k.k c.loop-k.difference c.loop-k.borrow at_end c.requires.same c.loop-k.invariant
