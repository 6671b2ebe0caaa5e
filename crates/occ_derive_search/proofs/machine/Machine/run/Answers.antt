use Rattle.occ_derive_search.proofs.Running.{run_ends, run_goes_on}
use Rattle.occ_derive_search.specs.Seen.{held}
use Rattle.occ_derive_search.proofs.machine.Machine.run.Goals as goal

pub loop-digit-init : goal.loop-digit-init
loop-digit-init c = λ next h. h

pub loop-digit-preserved : goal.loop-digit-preserved
loop-digit-preserved c = λ next h.
    run_goes_on c.args.code.now c.loop-digit.digit-index (held c.loop-digit.self) (held c.obey.new.self) next c.loop-digit-test.true
    c.in_ok-obey.ensures (c.loop-digit.invariant next h)

pub returns : goal.returns
returns c = λ next h. run_ends c.args.code.now c.loop-digit.digit-index (held c.loop-digit.self) next c.loop-digit-test.false (c.loop-digit.invariant next h)
