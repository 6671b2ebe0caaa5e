use Rattle.occ_nform.proofs.Texts.{states_end, states_step}
use Rattle.occ_nform.proofs.lines.push_states.Goals as goal

pub loop-place-preserved : goal.loop-place-preserved
loop-place-preserved c = states_step c.args.params.now c.args.states.now c.loop-place.place _ c.loop-place.text.items c.push_line_of_state.new.text.items _ c.loop-place-test.true c.loop-place.invariant c.in_ok-push_line_of_state.ensures

pub returns : goal.returns
returns c = states_end c.args.params.now c.args.states.now c.loop-place.place c.loop-place.text.items _ c.loop-place-test.false c.loop-place.invariant
