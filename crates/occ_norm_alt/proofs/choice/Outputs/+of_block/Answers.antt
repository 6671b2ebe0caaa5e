use Rattle.std.proofs.Common.{◌≡◌, ◌+◌, ◌^◌, get_or, take, sym, ap, ◌∙◌, subst, arith}
use Rattle.std.proofs.lemmas.Result.{IfOk-weaker}
use Rattle.occ_norm_frame.specs.occ_bits.Words.{number_at}
use Rattle.occ_norm_frame.specs.occ_dd.Store.{IsKnown, has}
use Rattle.occ_norm_frame.proofs.Worlds.{extends_trans, has_nodes-extends}
use Rattle.occ_norm_frame.proofs.Keeping.{set-extends, sets-extend}
use Rattle.occ_norm_alt.specs.Inputs.{AreOutputs}
use Rattle.occ_norm_alt.proofs.Steps.{empty_set, no_outputs, none_taken, outputs_more, outputs_same, outside_later, within_later}
use Rattle.occ_norm_alt.proofs.choice.Outputs.+of_block.Goals as goal

pub within-requires-clause-other : goal.within-requires-clause-other
within-requires-clause-other t c = subst (λ ds. IsKnown c.args.world.now.store (get_or ds c.low-lower.result.left (record { 0 = 0 }))) (sym c.bits.ensures.bits)
    (c.requires.digits c.low-lower.result.left (record { 0 = 0 }) (omega (arith, c.low-lower.ensures.left, c.requires.left)))

pub of_block-requires : goal.of_block-requires
of_block-requires t c =
    let u = c.args.world.now in
    let v = c.without.new.self in
    let grow = extends_trans u c.within.new.self v c.within.ensures.extends c.without.ensures.extends in
    let with_known = set-extends c.within.new.self v c.without.ensures.extends c.in_ok-with.with c.in_ok-with.ensures.set.known in
    let smaller = c.high-upper.ensures.left in
    (omega (arith, c.decreases, smaller), (omega (arith, c.requires.left, smaller), (sets-extend u v grow c.args.self.now.digits c.requires.digits, (with_known, has_nodes-extends u v grow c.args.self.now.next c.requires.next))))

pub of_block-requires-2 : goal.of_block-requires-2
of_block-requires-2 t c =
    let u = c.args.world.now in
    let v = c.without.new.self in
    let w = c.of_block.new.world in
    let grow = extends_trans u v w (extends_trans u c.within.new.self v c.within.ensures.extends c.without.ensures.extends) c.of_block.ensures.extends in
    let outside_known = set-extends v w c.of_block.ensures.extends c.in_ok-outside.outside c.in_ok-outside.ensures.set.known in
    let smaller = c.low-lower.ensures.left in
    (omega (arith, c.decreases, smaller), (omega (arith, c.requires.left, smaller), (sets-extend u w grow c.args.self.now.digits c.requires.digits, (outside_known, has_nodes-extends u w grow c.args.self.now.next c.requires.next))))

pub returns-clause-extends : goal.returns-clause-extends
returns-clause-extends t c =
    let u = c.args.world.now in
    let v = c.without.new.self in
    let w = c.of_block-2.new.world in
    let grow = extends_trans u v c.of_block.new.world (extends_trans u c.within.new.self v c.within.ensures.extends c.without.ensures.extends) c.of_block.ensures.extends in
    extends_trans u w c.choose.new.self (extends_trans u c.of_block.new.world w grow c.of_block-2.ensures.extends) c.choose.ensures.extends

pub returns-clause-nodes : goal.returns-clause-nodes
returns-clause-nodes t c = c.choose.ensures.nodes (has_nodes-extends c.of_block.new.world c.of_block-2.new.world c.of_block-2.ensures.extends c.in_ok-high.high c.in_ok-high.ensures.nodes) c.in_ok-low.ensures.nodes

pub returns-then-eq-clause-outputs : goal.returns-then-eq-clause-outputs
returns-then-eq-clause-outputs t c = IfOk-weaker c.stop.result _ _
    (λ r stop. no_outputs c.stop.new.self c.args.self.now.chan (has c.args.world.now.store c.args.set) _ c.args.self.now.next r
    (empty_set c.args.world.now.store c.args.set c.empty.result c.empty.ensures (sym c.eq.ensures ∙ c.if-eq.true)))
    c.stop.ensures.stop

pub returns-then-block-eq0-clause-outputs : goal.returns-then-block-eq0-clause-outputs
returns-then-block-eq0-clause-outputs t c =
    let o = c.args.self.now in
    IfOk-weaker c.of_value.result _ _
    (λ r is. outputs_same c.of_value.new.world o.chan (has c.args.world.now.store c.args.set) (λ x. c.args.block.base) _ o.next r
    (none_taken c.args.world.now.store o.digits c.args.block.base c.args.block.left c.if-block-eq0.true) is)
    c.of_value.ensures.outputs

pub returns-clause-outputs : goal.returns-clause-outputs
returns-clause-outputs t c =
    let o = c.args.self.now in
    let block = c.args.block in
    let lower = c.low-lower.result in
    let upper = c.high-upper.result in
    let place = lower.left in
    let same : upper.left ≡ place = omega (arith, c.low-lower.ensures.left, c.high-upper.ensures.left) in
    let u = c.args.world.now in
    let a = c.within.new.self in
    let b = c.without.new.self in
    let d = c.of_block.new.world in
    let e = c.of_block-2.new.world in
    let digit = get_or c.bits.result.now place (record { 0 = 0 }) in
    let here : digit ≡ get_or o.digits place (record { 0 = 0 }) = ap (λ ds. get_or ds place (record { 0 = 0 })) c.bits.ensures.bits in
    let known : IsKnown u.store digit = subst (IsKnown u.store) (sym here) (c.requires.digits place (record { 0 = 0 }) (omega (arith, c.low-lower.ensures.left, c.requires.left))) in
    IfOk-weaker c.choose.result _ _
    (λ r made. outputs_more u b d e c.choose.new.self (extends_trans u a b c.within.ensures.extends c.without.ensures.extends) c.of_block.ensures.extends c.of_block-2.ensures.extends c.choose.ensures.extends
    o.chan o.digits block.left place block.base upper.base c.args.set digit (record { 0 = 0 }) c.in_ok-with.with c.in_ok-outside.outside o.next c.in_ok-high.high c.in_ok-low.low r
    c.requires.digits c.low-lower.ensures.left c.requires.left here (c.high-upper.ensures.base ∙ ap (λ n. block.base + 2 ^ n) same) known
    (within_later a b c.without.ensures.extends c.in_ok-with.with _ c.in_ok-with.ensures.set)
    (outside_later u a b d c.within.ensures.extends c.of_block.ensures.extends c.args.set digit c.in_ok-outside.outside c.requires.set known c.in_ok-outside.ensures.set)
    c.requires.next c.in_ok-high.ensures.nodes c.in_ok-low.ensures.nodes
    (subst (λ n. AreOutputs d o.chan (has b.store c.in_ok-with.with) (λ x. upper.base + number_at b.store (take n o.digits) x) o.next c.in_ok-high.high) same c.in_ok-high.ensures.outputs)
    (subst (λ v. AreOutputs e o.chan (has d.store c.in_ok-outside.outside) (λ x. v + number_at d.store (take place o.digits) x) o.next c.in_ok-low.low) c.low-lower.ensures.base c.in_ok-low.ensures.outputs)
    made)
    c.choose.ensures.map
