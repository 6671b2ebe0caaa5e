use Rattle.std.proofs.Common.{◌≡◌, ◌+◌, ap, sym, subst, arith, refl, ◌∙◌}
use Rattle.occ_replay.proofs.Following.{begins, further_in, rejected_in, rules_copied, rules_further}
use Rattle.occ_replay.specs.Scripts.{IsRejectedSteps, step_of, steps_of}
use Rattle.occ_replay.proofs.replaying.follow.Goals as goal

pub loop-step-init : goal.loop-step-init
loop-step-init c =
    let from = c.args.from.now in
    let copy = c.in_ok-program.program in
    let e = c.in_ok-program.ensures in
    record { counted = refl; keeps = rules_copied from copy e.params e.body c.requires.keeps; derived = begins from copy e.name e.params e.body }

pub returns-in-Err-clause-stopped : goal.returns-in-Err-clause-stopped
returns-in-Err-clause-stopped c =
    let i = c.loop-step.invariant in
    subst (IsRejectedSteps c.args.from.now (steps_of c.args.steps.now)) (sym c.rejected.ensures)
    (rejected_in c.args.from.now c.loop-step.program c.args.steps.now c.loop-step.step-index (c.loop-step.number + 1) c.step-item.result c.in-Err.stopped
    c.loop-step-test.true (sym c.step-item.is) (ap (λ k. k + 1) i.counted) i.derived (c.in-Err.ensures.stopped))

pub loop-step-preserved : goal.loop-step-preserved
loop-step-preserved c =
    let i = c.loop-step.invariant in
    let taken = c.in-Ok.ensures.taken in
    record {
      counted = ap (λ k. k + 1) i.counted;
      keeps = rules_further c.loop-step.program c.in-Ok.next (step_of c.step-item.result) i.keeps taken;
      derived = further_in c.args.from.now c.loop-step.program c.in-Ok.next c.args.steps.now c.loop-step.step-index c.step-item.result c.loop-step-test.true (sym c.step-item.is) i.derived taken;
    }
