use Rattle.std.proofs.Common.{◌+◌, map, take, ap, sym, subst, refl}
use Rattle.occ_engine.proofs.Leading.{begins, further_in, refused_in, rules_further}
use Rattle.occ_engine.proofs.Putting.{rules_copied}
use Rattle.occ_engine.specs.Moved.{order_of, orders_of}
use Rattle.occ_engine.specs.Outcomes.{AreStopped, IsLed}
use Rattle.occ_engine.proofs.following.follow.Goals as goal

pub loop-order-init : goal.loop-order-init
loop-order-init c =
    let from = c.args.from.now in
    let copy = c.in_ok-to.to in
    let e = c.in_ok-to.ensures in
    record { counted = refl; keeps = rules_copied from copy e.params e.body c.requires.keeps; led = begins from copy c.new-steps.result c.new-steps.ensures e.name e.params e.body }

pub returns-in-Err-clause-stopped : goal.returns-in-Err-clause-stopped
returns-in-Err-clause-stopped c =
    let i = c.loop-order.invariant in
    subst (AreStopped c.args.from.now (orders_of c.args.orders.now)) (sym c.fault.ensures)
    (refused_in c.args.from.now c.loop-order.to c.args.orders.now c.loop-order.steps c.loop-order.order-index (c.loop-order.number + 1) c.order-item.result c.in-Err.stopped
    c.loop-order-test.true (sym c.order-item.is) (ap (λ k. k + 1) i.counted) i.led (c.in-Err.ensures.stopped))

pub loop-order-preserved : goal.loop-order-preserved
loop-order-preserved c =
    let i = c.loop-order.invariant in
    let taken = c.in-Ok.ensures.taken in
    let from = c.args.from.now in
    let moved = c.in-Ok.field-0 in
    record {
      counted = ap (λ k. k + 1) i.counted;
      keeps = rules_further c.loop-order.to (order_of c.order-item.result) moved i.keeps taken;
      led = subst (λ ss. IsLed from (map order_of (take (c.loop-order.order-index + 1) c.args.orders.now)) ss moved.to) (sym c.in_ok-push-in-Ok.ensures.ok)
          (further_in from c.loop-order.to c.args.orders.now c.loop-order.steps c.loop-order.order-index c.order-item.result moved c.loop-order-test.true (sym c.order-item.is) i.led taken);
    }
