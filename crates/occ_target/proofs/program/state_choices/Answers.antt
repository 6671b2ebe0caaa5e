use Rattle.std.proofs.Common.{ap, ◌∙◌, sym, map, get_or}
use Rattle.std.proofs.lemmas.List.{get_or-map}
use Rattle.occ_syntax.specs.Tree.{stop}
use Rattle.occ_syntax.specs.View.{in_choices, tree}
use Rattle.occ_target.specs.States.{condition}
use Rattle.occ_target.proofs.Built.{states_all, states_step}
use Rattle.occ_target.proofs.program.state_choices.Goals as goal

pub loop-place-preserved : goal.loop-place-preserved
loop-place-preserved c =
    let inv = c.loop-place.invariant in
    let lower = c.requires.states c.loop-place.place 0 c.loop-place-test.true in
    states_step c.args.params.now (map tree c.args.parts.now) c.args.states.now c.loop-place.place 0 inv.0 (in_choices c.loop-place.made) (in_choices c.push.new.self) c.in_ok-condition.field-0 c.in_ok-part.part _
    c.loop-place-test.true inv.1 inv.2 (c.in_ok-condition.ensures ∙ ap (condition c.args.params.now) (c.items.ensures ∙ c.in_ok-state.ensures))
    (c.in_ok-part.ensures ∙ ap tree c.index-parts-row.is ∙ sym (get_or-map tree c.args.parts.now (get_or c.args.states.now c.loop-place.place 0) c.index-parts-row.result stop lower)) c.in_ok-push.ensures.ok

pub returns : goal.returns
returns c = states_all c.args.params.now (map tree c.args.parts.now) c.args.states.now c.loop-place.place _ (in_choices c.loop-place.made) _ c.loop-place-test.false c.loop-place.invariant.1 c.loop-place.invariant.2
