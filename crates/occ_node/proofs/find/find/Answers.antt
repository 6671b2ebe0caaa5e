use Rattle.std.proofs.Common.{rules}
use Rattle.std.proofs.lemmas.List.Sorted.{answers_always}
use Rattle.occ_accept.specs.occ_base.declared.event.Event.{Event}
use Rattle.occ_node.specs.declared.node.NodeId.{NodeId}
use Rattle.occ_node.proofs.Places.{find_ok, find_err}
use Rattle.occ_node.proofs.find.find.Goals as goal

pub returns-in-Ok : goal.returns-in-Ok
returns-in-Ok c = find_ok c.args.event c.args.offers.now c.in-Ok.place _ c.in-Ok.ensures.bound c.requires
    (c.in-Ok.ensures.position (λ (o : Event × NodeId). o.0) (answers_always _ _ _ (λ f a r f' h. search rules)))

pub returns-in-Err : goal.returns-in-Err
returns-in-Err c = find_err c.args.event c.args.offers.now c.in-Err.field-0 c.in-Err.ensures.bound c.requires
    (c.in-Err.ensures.position (λ (o : Event × NodeId). o.0) (answers_always _ _ _ (λ f a r f' h. search rules)))
