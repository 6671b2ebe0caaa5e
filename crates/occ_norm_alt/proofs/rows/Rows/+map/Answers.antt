use Rattle.std.proofs.Common.{◌-◌, arith}
use Rattle.std.proofs.lemmas.Result.{IfOk-weaker}
use Rattle.occ_norm_frame.proofs.Worlds.{has_nodes-extends}
use Rattle.occ_norm_alt.proofs.ByStates.{rows_both, rows_inside, rows_one}
use Rattle.occ_norm_alt.proofs.rows.Rows.+map.Goals as goal

pub returns-then-left-eq0-clause-rows : goal.returns-then-left-eq0-clause-rows
returns-then-left-eq0-clause-rows t c =
    let i = c.args.self.inputs in
    let next = c.args.self.next in
    IfOk-weaker c.constant.result _ _
    (λ r is. rows_one c.row_at.new.world c.constant.new.self c.constant.ensures.extends i.chan i.first i.bits next c.args.left c.args.state c.in_ok-node.node r
    i.within c.ranges.state.fits (has_nodes-extends c.args.world.now c.row_at.new.world c.row_at.ensures.extends next c.requires.next) c.if-left-eq0.true c.in_ok-node.ensures.row is)
    c.constant.ensures.map

pub returns-then-has-clause-rows : goal.returns-then-has-clause-rows
returns-then-has-clause-rows t c =
    let i = c.args.self.inputs in
    let inside = c.has.ensures.0 c.if-has.true in
    IfOk-weaker c.map.result _ _
    (λ r are. rows_inside c.map.new.world i.chan i.first i.bits c.args.self.next (c.args.left - 1) c.args.left c.args.state r (omega (arith, c.if-left-eq0.false)) c.requires.left inside.0 inside.1 are)
    c.map.ensures.rows

pub map-requires-3 : goal.map-requires-3
map-requires-3 t c = (
  omega (arith, c.decreases, c.if-left-eq0.false),
  (omega (arith, c.requires.left), has_nodes-extends c.args.world.now c.map-2.new.world c.map-2.ensures.extends c.args.self.next c.requires.next),
)

pub returns-clause-rows : goal.returns-clause-rows
returns-clause-rows t c =
    let i = c.args.self.inputs in
    rows_both c.args.world.now c.map-2.new.world c.map-3.new.world c.bit.new.self c.choose.new.self
    c.map-2.ensures.extends c.map-3.ensures.extends c.bit.ensures.extends c.choose.ensures.extends
    i.chan i.first i.bits c.args.self.next (c.args.left - 1) c.args.left c.args.state _ _ c.in_ok-low.low c.in_ok-high.high c.in_ok-map.map c.in_ok-set.set (omega (arith, c.if-left-eq0.false)) i.within c.requires.next
    c.with_bit-zero.ensures c.with_bit-one.ensures c.in_ok-set.ensures.set c.in_ok-low.ensures.rows c.in_ok-high.ensures.rows c.in_ok-map.ensures.map c.in_ok-map.ensures.nodes
