use Rattle.std.proofs.Common.{◌+◌, ◌-◌, get_or, ap, arith}
use Rattle.std.proofs.lemmas.Nat.{one_shl}
use Rattle.std.proofs.lemmas.Option.{slice_get-get_or}
use Rattle.std.proofs.lemmas.Result.{IfOk-weaker}
use Rattle.occ_norm_frame.specs.Growth.{node_grow}
use Rattle.occ_norm_assign.proofs.Laying.{high_within, low_within, one_within, spread_made, spread_one}
use Rattle.occ_norm_assign.proofs.laid.+spread.Goals as goal

pub returns-then-left-eq0-clause-spread : goal.returns-then-left-eq0-clause-spread
returns-then-left-eq0-clause-spread t c =
    let nodes = c.args.nodes.now in
    let h = one_within c.args.left c.args.first _ c.if-left-eq0.true c.requires.within in
    let got = slice_get-get_or nodes c.args.first (record { 0 = 0 }) h in
    IfOk-weaker c.constant.result _ _
    (λ r is. spread_one c.constant.new.self nodes c.args.left c.args.first (get_or nodes c.args.first (record { 0 = 0 })) r c.if-left-eq0.true got
    (node_grow c.args.world.now c.constant.new.self c.constant.ensures.extends.grows (get_or nodes c.args.first (record { 0 = 0 })) (c.requires.there c.args.first (get_or nodes c.args.first (record { 0 = 0 })) got)) is)
    c.constant.ensures.map

pub spread-requires : goal.spread-requires
spread-requires t c =
    (omega (arith, c.decreases, c.if-left-eq0.false), (omega (arith, c.requires.left), (low_within c.args.left c.args.first _ c.if-left-eq0.false c.requires.within, c.requires.there)))

pub spread-requires-2 : goal.spread-requires-2
spread-requires-2 t c = (
  omega (arith, c.decreases, c.if-left-eq0.false),
  (
    omega (arith, c.requires.left),
    (
      (let h = high_within c.args.left c.args.first _ c.if-left-eq0.false c.requires.within in let e = one_shl (c.args.left - 1) 64 (omega (arith, c.requires.left)) in omega (arith, h, e)),
      λ i a g. node_grow c.args.world.now c.spread.new.world c.spread.ensures.extends.grows a (c.requires.there i a g),
    ),
  ),
)

pub returns-clause-spread : goal.returns-clause-spread
returns-clause-spread t c =
    spread_made c.spread.new.world c.spread-2.new.world c.bit.new.self c.choose.new.self c.spread-2.ensures.extends c.bit.ensures.extends c.choose.ensures.extends
    c.args.nodes.now (c.args.left - 1) c.args.left c.args.first _ c.in_ok-low.low c.in_ok-high.high c.in_ok-map.map c.in_ok-set.set (omega (arith, c.if-left-eq0.false))
    (ap (λ n. c.args.first + n) (one_shl (c.args.left - 1) 64 (omega (arith, c.requires.left)))) c.in_ok-set.ensures.set c.in_ok-low.ensures.spread c.in_ok-high.ensures.spread c.in_ok-map.ensures.map
    c.in_ok-map.ensures.nodes
