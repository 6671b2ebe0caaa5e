use Rattle.std.proofs.Common.{◌<◌, ◌≤◌, length, refl, arith}
use Rattle.occ_derive_search.proofs.Counting.{all_turned, stopped}
use Rattle.occ_derive_search.proofs.counter.advance.Goals as goal

pub returns-then-digit-clause-next : goal.returns-then-digit-clause-next
returns-then-digit-clause-next c =
    let within : c.loop-digit.digit-index < length c.loop-digit.digits = omega arith in
    stopped c.args.digits.now c.loop-digit.digits c.loop-digit.digit-index _ c.requires c.loop-digit.invariant.next_is within refl c.if-digit.true

pub returns-clause-next : goal.returns-clause-next
returns-clause-next c =
    let all : length c.loop-digit.digits ≤ c.loop-digit.digit-index = omega arith in
    all_turned c.args.digits.now c.loop-digit.digits c.loop-digit.digit-index c.requires c.loop-digit.invariant.next_is all
