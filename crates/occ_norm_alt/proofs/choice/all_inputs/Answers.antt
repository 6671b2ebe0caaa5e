use Rattle.std.proofs.Common.{◌≡◌, ◌≤◌, arith, subst}
use Rattle.std.specs.Bool.{OnTrue}
use Rattle.std.proofs.lemmas.Result.{IfOk-weaker}
use Rattle.occ_norm_frame.proofs.After.{over-extends}
use Rattle.occ_norm_alt.specs.Inputs.{AreInputs}
use Rattle.occ_norm_alt.proofs.ByStates.{rows_whole}
use Rattle.occ_norm_alt.proofs.choice.all_inputs.Goals as goal

pub returns-then-by_states-clause-inputs : goal.returns-then-by_states-clause-inputs
returns-then-by_states-clause-inputs c =
    let i = c.args.inputs in
    let f = c.args.frame.now in
    let w = c.map.new.world in
    let few : f.bits ≤ 16 = subst (λ b. OnTrue b (f.bits ≤ 16)) c.if-by_states.true c.in_ok-by_states.ensures.few in
    IfOk-weaker c.map.result _ _
    (λ r are. rows_whole w f.bits i.chan i.first i.bits i.keep c.args.next r (omega (arith, few)) i.within (subst (λ b. OnTrue b (i.keep ≡ 0)) c.if-by_states.true c.in_ok-by_states.ensures.unkept)
    (over-extends c.args.world.now w c.map.ensures.extends f.bits c.args.next c.requires) are)
    c.map.ensures.rows

pub returns-clause-inputs : goal.returns-clause-inputs
returns-clause-inputs c =
    let i = c.args.inputs in
    let w = c.input_from.new.world in
    IfOk-weaker c.input_from.result _ _
    (λ r are. subst (λ b. AreInputs w i.chan i.first i.bits i.keep b c.args.next r) c.of.ensures.base (subst (λ n. AreInputs w i.chan i.first n i.keep c.of.result.base c.args.next r) c.of.ensures.left are))
    c.input_from.ensures.inputs
