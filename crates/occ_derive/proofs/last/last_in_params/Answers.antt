use Rattle.std.proofs.Common.{arith}
use Rattle.occ_derive.proofs.Below.{params_on}
use Rattle.occ_derive.proofs.last.last_in_params.Goals as goal

pub loop-param-preserved : goal.loop-param-preserved
loop-param-preserved c = λ m l rest. c.loop-param.invariant m (omega (arith, c.greater-last.ensures.first, l))
    (params_on c.greater-last.result m c.args.params.now c.loop-param.param-index _ c.loop-param-test.true c.greater-last.ensures.second l rest)
