use Rattle.std.proofs.Common.{[], sym, subst}
use Rattle.std.proofs.lemmas.List.{take_all}
use Rattle.occ_derive_search.proofs.Stepping.{IsOnWay, arrives, ends_nowhere, goes_on, sets_out}
use Rattle.occ_derive_search.proofs.Taking.{rules_on}
use Rattle.occ_derive_search.specs.Walking.{IsNext}
use Rattle.occ_engine.proofs.Putting.{rules_copied}
use Rattle.occ_engine.specs.Moved.{move_of}
use Rattle.occ_engine.specs.occ_usage.Accepted.{KeepsRules}
use Rattle.occ_derive_search.proofs.following.follow.Goals as goal

pub loop-step-init : goal.loop-step-init
loop-step-init c =
    let from = c.program.result.now in
    let here = c.in_ok-walk.walk.here in
    let e = c.in_ok-walk.ensures in
    let accepted = c.program.ensures.accepted in
    let kept : KeepsRules from = record { scope = accepted.typed.scope; keeps = accepted.keeps } in
    record { keeps = rules_copied from here e.params e.body kept; led = subst (λ p. IsOnWay p [] here) c.program.ensures.same (sets_out from here e.name e.params e.body) }

pub take-requires : goal.take-requires
take-requires c = c.loop-step.invariant.keeps

pub returns-in-None : goal.returns-in-None
returns-in-None c =
    ends_nowhere c.args.accepted.now.program c.loop-step.walk c.args.steps.now c.loop-step.step-index c.step-item.result c.loop-step-test.true (sym c.step-item.is)
    c.loop-step.invariant.led (subst (IsNext c.loop-step.walk.here (move_of c.step-item.result)) c.in-None.is c.in_ok-next.ensures)

pub loop-step-preserved : goal.loop-step-preserved
loop-step-preserved c =
    let step = c.step-item.result in
    let walk = c.loop-step.walk in
    let next = subst (IsNext walk.here (move_of step)) c.in-Some.is c.in_ok-next.ensures in
    record {
      keeps = rules_on walk.here step c.in-Some.next c.loop-step.invariant.keeps next;
      led = goes_on c.args.accepted.now.program walk c.in-Some.next c.args.steps.now c.loop-step.step-index step c.loop-step-test.true (sym c.step-item.is) c.loop-step.invariant.led next;
    }

pub returns : goal.returns
returns c =
    let from = c.args.accepted.now.program in
    arrives from c.loop-step.walk.here c.args.steps.now
    (subst (λ steps. IsOnWay from steps c.loop-step.walk.here) (take_all c.loop-step.step-index c.args.steps.now c.loop-step-test.false) c.loop-step.invariant.led)
