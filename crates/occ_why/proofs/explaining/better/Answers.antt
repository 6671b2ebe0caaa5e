use Rattle.occ_why.proofs.Telling.{some_so, tells_apart}
use Rattle.occ_why.proofs.explaining.better.Goals as goal

pub returns-then-not-other_has : goal.returns-then-not-other_has
returns-then-not-other_has c =
    let own = some_so _ _ _ c.in_ok-own.ensures.claim c.in-Some-2.is in
    let others = some_so _ _ _ c.in_ok-others.ensures.claim c.in-Some-3.is in
    tells_apart c.args.owner.text.now c.args.other.text.now c.deref.result.now c.deref-2.result.now c.in-Some.found.items c.in-Some-2.own.accepted.program
    c.in-Some-3.others.accepted.program c.in-Some-2.own.behaviour c.in-Some-3.others.behaviour c.in_ok-has.has c.in_ok-other_has.other_has c.deref.ensures.value c.deref-2.ensures.value
    own others c.in_ok-has.ensures c.in_ok-other_has.ensures c.if-has.true c.if-not-other_has.true
