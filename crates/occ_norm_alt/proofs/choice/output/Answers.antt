use Rattle.std.proofs.Common.{length, ap, arith}
use Rattle.std.proofs.lemmas.Result.{IfOk-weaker}
use Rattle.occ_norm_frame.proofs.Worlds.{extends_trans, has_nodes-extends}
use Rattle.occ_syntax.specs.View.{exp}
use Rattle.occ_norm_alt.proofs.Done.{is_closed, not_closed, output_closed, output_done, send_done, whole_value}
use Rattle.occ_norm_alt.proofs.choice.output.Goals as goal

pub overflow_cast-count : goal.overflow_cast-count
overflow_cast-count c = omega (arith, ap length c.bits.ensures.bits, c.bits.ensures.most)

pub of-requires : goal.of-requires
of-requires c = omega (arith, ap length c.bits.ensures.bits, c.bits.ensures.most)

pub of_block-requires-clause-left : goal.of_block-requires-clause-left
of_block-requires-clause-left c = omega (arith, c.of.ensures.left, ap length c.bits.ensures.bits)

pub of_block-requires-clause-next : goal.of_block-requires-clause-next
of_block-requires-clause-next c = has_nodes-extends c.args.world.now c.digits.new.world c.digits.ensures.extends c.args.next c.requires.next.has

pub returns-clause-guarded : goal.returns-clause-guarded
returns-clause-guarded c =
    let f = c.args.frame.now in
    let put = c.args.put.now in
    let u = c.args.world.now in
    let v = c.digits.new.world in
    let w = c.of_block.new.world in
    IfOk-weaker c.of_block.result _ _
    (λ r outputs. output_done f u v w c.digits.ensures.extends c.of_block.ensures.extends c.args.next c.requires.next put.chan
    (exp put.value.now) _ _ r (not_closed c.is_closed-closed.result _ c.is_closed-closed.ensures c.if-closed.false) c.full-full.ensures.members
    (whole_value v.store f.layout (exp put.value.now) c.in_ok-digits.digits c.of.result.base c.of.result.left c.in_ok-digits.ensures.value c.of.ensures.base (omega (arith, c.of.ensures.left, ap length c.bits.ensures.bits, c.bits.ensures.most)))
    outputs)
    c.of_block.ensures.outputs

pub returns-clause-after : goal.returns-clause-after
returns-clause-after c =
    let f = c.args.frame.now in
    let put = c.args.put.now in
    let u = c.args.world.now in
    let v = c.digits.new.world in
    let w = c.of_block.new.world in
    IfOk-weaker c.of_block.result _ _
    (λ r outputs. send_done f u w (extends_trans u v w c.digits.ensures.extends c.of_block.ensures.extends) c.args.next c.requires.next put.chan r (exp put.value.now)
    (output_done f u v w c.digits.ensures.extends c.of_block.ensures.extends c.args.next c.requires.next put.chan
    (exp put.value.now) _ _ r (not_closed c.is_closed-closed.result _ c.is_closed-closed.ensures c.if-closed.false) c.full-full.ensures.members
    (whole_value v.store f.layout (exp put.value.now) c.in_ok-digits.digits c.of.result.base c.of.result.left c.in_ok-digits.ensures.value c.of.ensures.base (omega (arith, c.of.ensures.left, ap length c.bits.ensures.bits, c.bits.ensures.most)))
    outputs))
    c.of_block.ensures.outputs

pub returns-then-closed-clause-guarded : goal.returns-then-closed-clause-guarded
returns-then-closed-clause-guarded c =
    let put = c.args.put.now in
    IfOk-weaker c.stop.result _ _
    (λ r stop Γ around kept. output_closed c.args.frame.now c.stop.new.self c.args.next r put.chan (exp put.value.now) (is_closed c.is_closed-closed.result _ c.is_closed-closed.ensures c.if-closed.true) stop Γ)
    c.stop.ensures.stop

pub returns-then-closed-clause-after : goal.returns-then-closed-clause-after
returns-then-closed-clause-after c =
    let f = c.args.frame.now in
    let put = c.args.put.now in
    IfOk-weaker c.stop.result _ _
    (λ r stop. send_done f c.args.world.now c.stop.new.self c.stop.ensures.extends c.args.next c.requires.next put.chan r (exp put.value.now)
    (λ Γ around kept. output_closed f c.stop.new.self c.args.next r put.chan (exp put.value.now) (is_closed c.is_closed-closed.result _ c.is_closed-closed.ensures c.if-closed.true) stop Γ))
    c.stop.ensures.stop
