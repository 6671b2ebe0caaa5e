use Rattle.std.proofs.Common.{refl, ◌∙◌}
use Rattle.std.proofs.lemmas.Result.{IfOk-weaker}
use Rattle.occ_norm_frame.proofs.Worlds.{extends_trans}
use Rattle.occ_norm_alt.proofs.Done.{input_closed, input_done, is_closed, not_closed, receive_done}
use Rattle.occ_norm_alt.proofs.choice.input.Goals as goal

pub returns-clause-guarded : goal.returns-clause-guarded
returns-clause-guarded c =
    let f = c.args.frame.now in
    let get = c.args.get in
    IfOk-weaker c.rebased.result _ _
    (λ r changed. input_done f c.args.world.now c.all_inputs.new.world c.rebased.new.world c.all_inputs.ensures.extends c.rebased.ensures.extends c.args.next c.requires.next get.chan
    get.var.0 c.slot-width.result.0 c.slot-width.result.1 c.from.result c.bits-bits.result _ _ c.in_ok-map.map r c.slot-width.ensures.found (c.from.ensures ∙ c.bits-bits.ensures) c.bits-bits.ensures c.bits_from.ensures refl
    (not_closed c.is_closed.result _ c.is_closed.ensures c.if-is_closed.false) c.in_ok-map.ensures.nodes c.in_ok-map.ensures.inputs changed)
    c.rebased.ensures.changed

pub returns-clause-after : goal.returns-clause-after
returns-clause-after c =
    let f = c.args.frame.now in
    let get = c.args.get in
    let u = c.args.world.now in
    let v = c.all_inputs.new.world in
    let w = c.rebased.new.world in
    IfOk-weaker c.rebased.result _ _
    (λ r changed. receive_done f u w (extends_trans u v w c.all_inputs.ensures.extends c.rebased.ensures.extends) c.args.next c.requires.next get.chan r get.var.0
    (input_done f u v w c.all_inputs.ensures.extends c.rebased.ensures.extends c.args.next c.requires.next get.chan
    get.var.0 c.slot-width.result.0 c.slot-width.result.1 c.from.result c.bits-bits.result _ _ c.in_ok-map.map r c.slot-width.ensures.found (c.from.ensures ∙ c.bits-bits.ensures) c.bits-bits.ensures c.bits_from.ensures refl
    (not_closed c.is_closed.result _ c.is_closed.ensures c.if-is_closed.false) c.in_ok-map.ensures.nodes c.in_ok-map.ensures.inputs changed))
    c.rebased.ensures.changed

pub returns-then-is_closed-clause-guarded : goal.returns-then-is_closed-clause-guarded
returns-then-is_closed-clause-guarded c = IfOk-weaker c.stop.result _ _
    (λ r stop Γ around kept. input_closed c.args.frame.now c.stop.new.self c.args.next r c.args.get.chan c.args.get.var.0 (is_closed c.is_closed.result _ c.is_closed.ensures c.if-is_closed.true) stop Γ)
    c.stop.ensures.stop

pub returns-then-is_closed-clause-after : goal.returns-then-is_closed-clause-after
returns-then-is_closed-clause-after c =
    let f = c.args.frame.now in
    let get = c.args.get in
    IfOk-weaker c.stop.result _ _
    (λ r stop. receive_done f c.args.world.now c.stop.new.self c.stop.ensures.extends c.args.next c.requires.next get.chan r get.var.0
    (λ Γ around kept. input_closed f c.stop.new.self c.args.next r get.chan get.var.0 (is_closed c.is_closed.result _ c.is_closed.ensures c.if-is_closed.true) stop Γ))
    c.stop.ensures.stop
