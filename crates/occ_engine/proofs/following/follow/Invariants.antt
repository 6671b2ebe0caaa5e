use Rattle.std.proofs.Common.{◌≡◌, take, map}
use Rattle.occ_engine.specs.Moved.{order_of}
use Rattle.occ_engine.specs.Outcomes.{IsLed}
use Rattle.occ_law_any.specs.occ_usage.Accepted.{KeepsRules}
use Rattle.occ_engine.proofs.following.follow.Given as goal

abbrev pub invariant-loop-order : goal.invariant-loop-order
invariant-loop-order l = record {
  counted : l.number ≡ l.order-index;
  keeps : KeepsRules l.to;
  led : IsLed l.fn.from (map order_of (take l.order-index l.orders)) l.steps l.to;
}
