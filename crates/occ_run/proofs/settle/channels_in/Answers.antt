use Rattle.std.proofs.Common.{sym, ap, ◌∙◌}
use Rattle.occ_syntax.specs.Tree.{connect}
use Rattle.occ_syntax.specs.View.{tree}
use Rattle.occ_run.proofs.Channels.{one_through}
use Rattle.occ_run.proofs.settle.channels_in.Goals as goal

pub loop-rest-preserved : goal.loop-rest-preserved
unfolding tree
loop-rest-preserved c =
    one_through c.loop-rest.channels.items c.push.new.self.items (c.in-Chan.name, c.in-Chan.width) (tree c.loop-rest.rest.now) (tree c.deref-rest.result.now) _ c.in_ok-push.ensures.items
    (ap tree c.in-Chan.is ∙ sym (ap (λ p. connect c.in-Chan.name.0 c.in-Chan.width (tree p)) c.deref-rest.ensures)) c.loop-rest.invariant
