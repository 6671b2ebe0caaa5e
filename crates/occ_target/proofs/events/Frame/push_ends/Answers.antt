use Rattle.std.proofs.Common.{ap, ◌∙◌}
use Rattle.occ_syntax.specs.View.{in_alternatives}
use Rattle.occ_target.specs.Framed.{frame_of}
use Rattle.occ_target.specs.Rows.{end_branch}
use Rattle.occ_target.specs.States.{ending}
use Rattle.occ_target.proofs.Built.{mapped_step}
use Rattle.occ_target.proofs.events.Frame.push_ends.Goals as goal

pub loop-state-preserved : goal.loop-state-preserved
loop-state-preserved c front h = mapped_step (end_branch (frame_of c.args.self.now)) c.args.states.now c.loop-state.state-index c.state-item.result front (in_alternatives c.loop-state.made) (in_alternatives c.push.new.self) c.at_once.result
    c.in_ok-part.part c.loop-state-test.true c.state-item.is (c.loop-state.invariant front h) c.at_once.ensures.condition c.at_once.ensures.wait (c.in_ok-part.ensures ∙ ap (ending c.args.self.now.params.now) c.items.ensures) c.in_ok-push.ensures.ok
