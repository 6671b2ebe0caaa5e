use Rattle.std.proofs.Common.{ap, ◌∙◌}
use Rattle.occ_syntax.specs.View.{in_alternatives}
use Rattle.occ_target.specs.Framed.{frame_of}
use Rattle.occ_target.specs.Rows.{acceptance}
use Rattle.occ_target.proofs.Built.{mapped_step}
use Rattle.occ_target.proofs.events.Frame.push_acceptances.Goals as goal

pub loop-set-preserved : goal.loop-set-preserved
loop-set-preserved c front h = mapped_step (acceptance (frame_of c.args.self.now) c.args.offers.now) c.args.sets.now c.loop-set.set-index c.set-item.result front (in_alternatives c.loop-set.made) (in_alternatives c.push.new.self) c.at_once.result
    c.in_ok-part.part c.loop-set-test.true c.set-item.is (c.loop-set.invariant front h) c.at_once.ensures.condition c.at_once.ensures.wait
    (c.in_ok-part.ensures ∙ ap (λ xs. (acceptance (frame_of c.args.self.now) c.args.offers.now xs).1) c.items.ensures) c.in_ok-push.ensures.ok
