use Rattle.std.proofs.Common.{◌≡◌, ◌<◌, ◌≤◌, ◌+◌, ◌*◌, List, [], take, get_or, sym, ◌∙◌, subst, arith}
use Rattle.std.specs.List.{filter}
use Rattle.occ_node.specs.occ_base.declared.event.Event.{Event}
use Rattle.occ_node.specs.World.{nodes_of, row_of}
use Rattle.occ_node.specs.declared.node.NodeId.{NodeId}
use Rattle.occ_node.proofs.Behaviours.{leads_refl, leads_trans}
use Rattle.occ_scope.specs.Change.{IsChanged, stays}
use Rattle.occ_scope.specs.Paired.{Paired}
use Rattle.occ_scope.proofs.Pairing.{no_offer, paired_step, paired_whole}
use Rattle.occ_scope.proofs.Altering.{are_changed_later, changed_learnt, offers_later, open_below}
use Rattle.occ_scope.proofs.changing.+change.Goals as goal

-- ---- the offers
pub offers_after-loop-offer-init : goal.offers_after-loop-offer-init
offers_after-loop-offer-init t c = record {
  leads = leads_refl c.args.world.now;
  memo = c.requires.memo;
  paired = subst (λ (os : List (Event × NodeId)). Paired (IsChanged c.args.world.now c.args.change) [] os) (sym c.new-offers.ensures) tt;
}

pub offers_after-node_after-requires : goal.offers_after-node_after-requires
offers_after-node_after-requires t c =
    let u = c.args.world.now in
    let i = c.loop-offer.invariant in
    let items = c.deref-offer-items.result.now in
    let less : (get_or items c.loop-offer.offer-index no_offer).1.0 < c.args.node.0 = open_below u c.args.change c.args.node items c.loop-offer.offer-index no_offer c.requires.node (c.deref-offer-items.ensures.value ∙ c.in_ok-open.ensures) c.loop-offer-test.true in
    let known : c.args.node.0 < nodes_of u = c.requires.node in
    let more : nodes_of u ≤ nodes_of c.loop-offer.world = i.leads.more in
    let now : 2 * c.args.node.0 ≡ t = c.decreases in
    let fall : 2 * (get_or items c.loop-offer.offer-index no_offer).1.0 + 1 < t = omega arith in
    let there : (get_or items c.loop-offer.offer-index no_offer).1.0 < nodes_of c.loop-offer.world = omega arith in
    (fall, (there, i.memo))

pub offers_after-loop-offer-preserved : goal.offers_after-loop-offer-preserved
offers_after-loop-offer-preserved t c =
    let v = c.loop-offer.world in
    let w = c.node_after.new.world in
    let i = c.loop-offer.invariant in
    let items = c.deref-offer-items.result.now in
    record {
      leads = leads_trans c.args.world.now v w i.leads c.node_after.ensures.leads;
      memo = c.node_after.ensures.memo;
      paired = subst (λ (os : List (Event × NodeId)). Paired (IsChanged w c.args.change) (take (c.loop-offer.offer-index + 1) items) os) (sym c.in_ok-push.ensures.ok)
          (paired_step (IsChanged w c.args.change) items c.loop-offer.offers c.loop-offer.offer-index no_offer c.in_ok-next.next c.loop-offer-test.true
          (offers_later v w c.node_after.ensures.leads c.args.change (take c.loop-offer.offer-index items) c.loop-offer.offers i.paired) c.in_ok-next.ensures.changed);
    }

pub offers_after-returns-clause-offers : goal.offers_after-returns-clause-offers
offers_after-returns-clause-offers t c = paired_whole (IsChanged c.loop-offer.world c.args.change) c.deref-offer-items.result.now (filter (λ o. stays c.args.change o.0) (row_of c.args.world.now c.args.node).offers) c.loop-offer.offers c.loop-offer.offer-index
    c.loop-offer-test.false (c.deref-offer-items.ensures.value ∙ c.in_ok-open.ensures) c.loop-offer.invariant.paired

-- ---- the memo
pub node_after-returns-in_err-insert-clause-memo : goal.node_after-returns-in_err-insert-clause-memo
node_after-returns-in_err-insert-clause-memo t c = changed_learnt c.finish.new.world c.args.change c.offers_after.new.memo c.insert.new.self c.args.node c.in_ok-changed.changed c.number.result c.number.ensures
    (are_changed_later c.offers_after.new.world c.finish.new.world c.finish.ensures.leads c.args.change c.offers_after.new.memo c.offers_after.ensures.memo) c.in_ok-changed.ensures.changed c.insert.ensures

pub node_after-returns-clause-memo : goal.node_after-returns-clause-memo
node_after-returns-clause-memo t c = changed_learnt c.finish.new.world c.args.change c.offers_after.new.memo c.insert.new.self c.args.node c.in_ok-changed.changed c.number.result c.number.ensures
    (are_changed_later c.offers_after.new.world c.finish.new.world c.finish.ensures.leads c.args.change c.offers_after.new.memo c.offers_after.ensures.memo) c.in_ok-changed.ensures.changed c.insert.ensures
