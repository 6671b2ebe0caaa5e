use Rattle.std.proofs.Common.{ap, ◌∙◌}
use Rattle.occ_syntax.specs.View.{in_alternatives}
use Rattle.occ_target.specs.Framed.{frame_of}
use Rattle.occ_target.proofs.Left.{branches_all, branches_done, branches_in, branches_out, no_offer}
use Rattle.occ_target.proofs.events.Frame.of_events.Goals as goal
use Rattle.occ_target.proofs.events.Frame.of_events.Goals.{then-not-is_in_branch+in_ok-part+in_ok-push, else-not-is_in_branch}

pub loop-place-preserved : goal.loop-place-preserved
loop-place-preserved c =
    elim c.if-not-is_in_branch.branch [
      | then-not-is_in_branch+in_ok-part+in_ok-push w ↦ branches_out (frame_of c.args.self.now) c.loop-place.before c.args.offers.now c.loop-place.place no_offer (in_alternatives c.loop-place.made) (in_alternatives c.if-not-is_in_branch.made)
          w.guard.result w.in_ok-part.part c.is_in_branch.result c.loop-place-test.true c.loop-place.invariant c.is_in_branch.ensures w.if-not-is_in_branch.true w.guard.ensures.condition w.guard.ensures.wait w.in_ok-part.ensures
          (ap in_alternatives w.made-is ∙ w.in_ok-push.ensures.ok)
      | else-not-is_in_branch w ↦ branches_in (frame_of c.args.self.now) c.loop-place.before c.args.offers.now c.loop-place.place no_offer (in_alternatives c.loop-place.made) (in_alternatives c.if-not-is_in_branch.made)
          c.is_in_branch.result c.loop-place-test.true c.loop-place.invariant c.is_in_branch.ensures w.if-not-is_in_branch.false (ap in_alternatives w.made-is)
    ]

pub returns : goal.returns
returns c = branches_all (frame_of c.args.self.now) c.loop-place.before _ c.args.offers.now (in_alternatives c.loop-place.made) c.loop-place.invariant
    (branches_done (frame_of c.args.self.now) c.loop-place.before c.args.offers.now c.loop-place.place c.loop-place-test.false)
