use Rattle.std.proofs.Common.{IfOk, subst}
use Rattle.std.proofs.lemmas.Result.{IfOk-weaker}
use Rattle.occ_engine.proofs.Ranging.{led_out}
use Rattle.occ_engine.specs.Moved.{orders_of}
use Rattle.occ_engine.specs.Outcomes.{IsLedOut}
use Rattle.occ_engine.proofs.following.transform.Goals as goal

pub returns-clause-outcome : goal.returns-clause-outcome
returns-clause-outcome c =
    let orders = orders_of c.args.orders.now in
    IfOk-weaker c.follow.result _ _ (λ outcome h. led_out c.args.accepted.now.program orders outcome h)
    (subst (λ p. IfOk c.follow.result (IsLedOut p orders)) c.program.ensures.same c.follow.ensures.led)
