use Rattle.std.proofs.Common.{◌<◌, List, length, subst, sym}
use Rattle.occ_replay.specs.occ_script.declared.script.Order.{Order}
use Rattle.occ_run_schedule.proofs.from_usage.Law.{faultless_keeps}
use Rattle.occ_tool_run.proofs.Engine.{derived_of, followed_written, names_grown, order_fault, orders_fault_or_memory_told, orders_followed, orders_refused, orders_stopped}
use Rattle.occ_tool_run.proofs.transforming.transform_bytes.Goals as goal

pub refuse_orders-requires : goal.refuse_orders-requires
refuse_orders-requires c = orders_fault_or_memory_told c.args.bytes.now c.args.names c.in-Err.fault c.in-Err.ensures.refused

pub returns-in-Err-clause-transformed : goal.returns-in-Err-clause-transformed
returns-in-Err-clause-transformed c =
    orders_refused c.refuse_orders.result c.args.bytes.now c.args.names c.args.accepted.now.program c.in-Err.fault c.requires.short
    c.refuse_orders.ensures.told c.in-Err.ensures.refused

pub transform-requires : goal.transform-requires
transform-requires c = record { few = subst (λ (orders : List Order). length orders < 4294967295) (sym c.items.ensures) c.in-Ok.ensures.few }

pub script-requires-clause-outcome : goal.script-requires-clause-outcome
script-requires-clause-outcome c = derived_of c.moves_are_steps.ensures c.args.accepted.now.program c.in-Ok-transform.outcome c.in-Ok-transform.ensures.outcome

pub script-requires-clause-known : goal.script-requires-clause-known
script-requires-clause-known c =
    let p = c.args.accepted.now.program in
    followed_written c.kept_parts_have_known_names.ensures c.followed_orders_have_known_names.ensures c.args.bytes.now c.args.names
    c.orders.new.names p c.in-Ok.orders c.items.result.now c.in-Ok-transform.outcome c.items.ensures
    (faultless_keeps p c.args.accepted.now.kept)
    (names_grown c.names_stay_below.ensures c.args.names c.orders.new.names p c.orders.ensures.extends c.requires.known)
    c.in-Ok.ensures.found c.in-Ok-transform.ensures.led c.in-Ok-transform.ensures.outcome

pub returns-in-Ok-transform-clause-transformed : goal.returns-in-Ok-transform-clause-transformed
returns-in-Ok-transform-clause-transformed c =
    orders_followed c.script.result c.args.bytes.now c.args.names c.orders.new.names c.args.accepted.now.program c.in-Ok.orders
    c.items.result.now c.in-Ok-transform.outcome c.items.ensures c.requires.short c.in-Ok.ensures.found c.in-Ok-transform.ensures.led
    c.script.ensures.written

pub refuse_order-requires : goal.refuse_order-requires
refuse_order-requires c =
    order_fault c.args.accepted.now.program c.items.result.now c.in-Err-transform.fault c.in-Err-transform.ensures.stopped

pub returns-clause-transformed : goal.returns-clause-transformed
returns-clause-transformed c =
    orders_stopped c.refuse_order.result c.args.bytes.now c.args.names c.orders.new.names c.args.accepted.now.program c.in-Ok.orders
    c.items.result.now c.in-Err-transform.fault c.items.ensures c.requires.short c.in-Ok.ensures.found
    c.in-Err-transform.ensures.stopped c.refuse_order.ensures.told
