use Rattle.std.proofs.Common.{arith, sym}
use Rattle.occ_derive.proofs.Below.{steps_on}
use Rattle.occ_derive.proofs.last.last_in_steps.Goals as goal

pub loop-step-preserved : goal.loop-step-preserved
loop-step-preserved c = λ m l rest. c.loop-step.invariant m (omega (arith, c.greater-last.ensures.first, l))
    (steps_on c.last_in_step.result c.greater-last.result m c.args.steps.now c.loop-step.step-index _ c.step-item.result c.loop-step-test.true (sym c.step-item.is)
    c.last_in_step.ensures c.greater-last.ensures.second l rest)
