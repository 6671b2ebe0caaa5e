use Rattle.std.proofs.Common.{◌-◌, get_or, ap, arith}
use Rattle.std.specs.Int.Bits.{bit_and, bit_xor}
use Rattle.std.proofs.lemmas.Nat.{one_shl}
use Rattle.std.proofs.lemmas.Result.{IfOk-weaker}
use Rattle.occ_norm_frame.proofs.Worlds.{extends_trans, has_nodes-extends}
use Rattle.occ_norm_frame.proofs.Keeping.{set-extends}
use Rattle.occ_norm_frame.proofs.Turning.{changed_all}
use Rattle.occ_norm_assign.specs.Written.{no_write}
use Rattle.occ_norm_assign.proofs.Exchanging.{can_exchange-extends, exchanged_more, exchanged_none}
use Rattle.occ_norm_assign.proofs.writes.Exchange.+map.Goals as goal

pub returns-then-left-eq0-clause-exchanged : goal.returns-then-left-eq0-clause-exchanged
returns-then-left-eq0-clause-exchanged t c =
    let w = c.shifted.new.self in
    IfOk-weaker c.shifted.result _ _
    (λ r is. exchanged_none w c.args.self.now.writes.now c.args.self.now.keep c.args.left c.args.change c.args.map r c.if-left-eq0.true (changed_all w c.args.change c.args.map r is))
    c.shifted.ensures.shifted

pub parted-requires-clause-write : goal.parted-requires-clause-write
parted-requires-clause-write t c = c.requires.exchange.writes_known (c.args.left - 1) no_write (omega (arith, c.requires.left, c.if-left-eq0.false))

pub map-requires : goal.map-requires
map-requires t c = (
  omega (arith, c.decreases, c.if-left-eq0.false),
  (
    omega (arith, c.requires.left, c.if-left-eq0.false),
    (can_exchange-extends c.args.world.now c.parted.new.world c.parted.ensures.extends c.args.self.now.writes.now c.args.self.now.other c.requires.exchange, c.in_ok-parts.ensures.parts.on_known),
  ),
)

pub map-requires-2 : goal.map-requires-2
map-requires-2 t c =
    let u = c.args.world.now in
    let p = c.parted.new.world in
    let h = c.map.new.world in (
      omega (arith, c.decreases, c.if-left-eq0.false),
      (
        omega (arith, c.requires.left, c.if-left-eq0.false),
        (
          can_exchange-extends u h (extends_trans u p h c.parted.ensures.extends c.map.ensures.extends) c.args.self.now.writes.now c.args.self.now.other c.requires.exchange,
          has_nodes-extends p h c.map.ensures.extends c.in_ok-parts.parts.off c.in_ok-parts.ensures.parts.off_known,
        ),
      ),
    )

pub choose-requires-clause-set : goal.choose-requires-clause-set
choose-requires-clause-set t c =
    let p = c.parted.new.world in
    let l = c.map-2.new.world in
    set-extends p l (extends_trans p c.map.new.world l c.map.ensures.extends c.map-2.ensures.extends) c.in_ok-parts.parts.turns c.in_ok-parts.ensures.parts.turns_are.known

pub choose-requires-clause-a : goal.choose-requires-clause-a
choose-requires-clause-a t c = (has_nodes-extends c.map.new.world c.map-2.new.world c.map-2.ensures.extends c.in_ok-high.high c.in_ok-high.ensures.nodes).known

pub choose-requires-clause-b : goal.choose-requires-clause-b
choose-requires-clause-b t c = c.in_ok-low.ensures.nodes.known

pub returns-clause-nodes : goal.returns-clause-nodes
returns-clause-nodes t c = c.choose.ensures.nodes (has_nodes-extends c.map.new.world c.map-2.new.world c.map-2.ensures.extends c.in_ok-high.high c.in_ok-high.ensures.nodes) c.in_ok-low.ensures.nodes

pub returns-clause-exchanged : goal.returns-clause-exchanged
returns-clause-exchanged t c =
    let writes = c.args.self.now.writes.now in
    let keep = c.args.self.now.keep in
    let here = get_or writes (c.args.left - 1) no_write in
    IfOk-weaker c.choose.result _ _
    (λ r made. exchanged_more c.args.world.now c.parted.new.world c.map.new.world c.map-2.new.world c.choose.new.self c.parted.ensures.extends c.map.ensures.extends c.map-2.ensures.extends c.choose.ensures.extends
    writes c.args.self.now.other c.requires.exchange keep (c.args.left - 1) c.args.left c.args.change _ c.args.map c.in_ok-high.high c.in_ok-low.low r c.in_ok-parts.parts
    (omega (arith, c.requires.left, c.if-left-eq0.false)) (omega (arith, c.if-left-eq0.false))
    (ap (λ p. bit_xor c.args.change (bit_and keep p)) (one_shl here.bit 64 (c.requires.exchange.writes_known (c.args.left - 1) no_write (omega (arith, c.requires.left, c.if-left-eq0.false))).within))
    c.requires.map c.in_ok-parts.ensures.parts c.in_ok-high.ensures.nodes c.in_ok-high.ensures.exchanged c.in_ok-low.ensures.nodes c.in_ok-low.ensures.exchanged made)
    c.choose.ensures.map

pub returns-clause-extends : goal.returns-clause-extends
returns-clause-extends t c =
    let u = c.args.world.now in
    let p = c.parted.new.world in
    let h = c.map.new.world in
    let l = c.map-2.new.world in
    extends_trans u l c.choose.new.self (extends_trans u h l (extends_trans u p h c.parted.ensures.extends c.map.ensures.extends) c.map-2.ensures.extends) c.choose.ensures.extends
