use Rattle.std.proofs.Common.{◌≡◌, ◌<◌, ◌≤◌, ◌+◌, ◌*◌, List, [], take, get_or, sym, ap, ◌∙◌, subst, arith}
use Rattle.occ_choice.specs.occ_base.declared.event.Event.{Event}
use Rattle.occ_choice.specs.occ_node.World.{nodes_of, row_of}
use Rattle.occ_choice.specs.occ_node.declared.node.NodeId.{NodeId}
use Rattle.occ_choice.proofs.from_node.Behaviours.{leads_refl, leads_trans}
use Rattle.occ_scope.specs.Paired.{Paired}
use Rattle.occ_scope.proofs.Pairing.{no_offer, paired_step, paired_whole}
use Rattle.occ_follow.specs.Sequences.{IsSequence}
use Rattle.occ_follow.proofs.Continuing.{has_later, sequence_learnt, sequences_kept}
use Rattle.occ_follow.proofs.Assembling.{offers_later, offer_below}
use Rattle.occ_follow.proofs.follower.Follower.+follow.Goals as goal

-- ---- the offers
pub offers_after-loop-offer-init : goal.offers_after-loop-offer-init
offers_after-loop-offer-init t c = record {
  leads = leads_refl c.args.world.now;
  right = c.requires.right;
  paired = subst (λ (os : List (Event × NodeId)). Paired (IsSequence c.args.world.now c.args.map) [] os) (sym c.new-offers.ensures) tt;
}

pub offers_after-node_after-requires : goal.offers_after-node_after-requires
offers_after-node_after-requires t c =
    let u = c.args.world.now in
    let i = c.loop-offer.invariant in
    let items = c.items-offer-items.result.now in
    let same : items ≡ (row_of u c.args.node).offers = c.items-offer-items.ensures ∙ c.in_ok-before.ensures ∙ ap (λ r. r.offers) c.row.ensures.row in
    let less : (get_or items c.loop-offer.offer-index no_offer).1.0 < c.args.node.0 = offer_below u c.args.node items c.loop-offer.offer-index no_offer c.requires.node same c.loop-offer-test.true in
    let known : c.args.node.0 < nodes_of u = c.requires.node in
    let more : nodes_of u ≤ nodes_of c.loop-offer.world = i.leads.more in
    let now : 2 * c.args.node.0 ≡ t = c.decreases in
    let fall : 2 * (get_or items c.loop-offer.offer-index no_offer).1.0 + 1 < t = omega arith in
    let there : (get_or items c.loop-offer.offer-index no_offer).1.0 < nodes_of c.loop-offer.world = omega arith in
    (fall, (i.right, (there, has_later u c.loop-offer.world i.leads c.args.map c.requires.map)))

pub offers_after-loop-offer-preserved : goal.offers_after-loop-offer-preserved
offers_after-loop-offer-preserved t c =
    let v = c.loop-offer.world in
    let w = c.node_after.new.world in
    let i = c.loop-offer.invariant in
    let items = c.items-offer-items.result.now in
    record {
      leads = leads_trans c.args.world.now v w i.leads c.node_after.ensures.leads;
      right = c.node_after.ensures.right;
      paired = subst (λ (os : List (Event × NodeId)). Paired (IsSequence w c.args.map) (take (c.loop-offer.offer-index + 1) items) os) (sym c.in_ok-push.ensures.ok)
          (paired_step (IsSequence w c.args.map) items c.loop-offer.offers c.loop-offer.offer-index no_offer c.in_ok-next.next c.loop-offer-test.true
          (offers_later v w c.node_after.ensures.leads c.args.map (take c.loop-offer.offer-index items) c.loop-offer.offers i.paired) c.in_ok-next.ensures.sequence);
    }

pub offers_after-returns-clause-offers : goal.offers_after-returns-clause-offers
offers_after-returns-clause-offers t c = paired_whole (IsSequence c.loop-offer.world c.args.map) c.items-offer-items.result.now (row_of c.args.world.now c.args.node).offers c.loop-offer.offers c.loop-offer.offer-index
    c.loop-offer-test.false (c.items-offer-items.ensures ∙ c.in_ok-before.ensures ∙ ap (λ r. r.offers) c.row.ensures.row) c.loop-offer.invariant.paired

-- ---- the node and the memo
pub node_after-returns-in-Some-clause-sequence : goal.node_after-returns-in-Some-clause-sequence
node_after-returns-in-Some-clause-sequence t c = c.requires.right.sequences.each (record { first = c.args.node.0; second = c.args.map.0; third = 0 }) c.in-Some.known (sym c.get.ensures ∙ c.in-Some.is)

pub node_after-finish-requires-clause-unions : goal.node_after-finish-requires-clause-unions
node_after-finish-requires-clause-unions t c = c.offers_after.ensures.right.unions

pub node_after-finish-requires-clause-map : goal.node_after-finish-requires-clause-map
node_after-finish-requires-clause-map t c = has_later c.args.world.now c.offers_after.new.world c.offers_after.ensures.leads c.args.map c.requires.map

pub node_after-returns-in_err-followed-clause-right : goal.node_after-returns-in_err-followed-clause-right
node_after-returns-in_err-followed-clause-right t c = record {
  unions = c.finish.ensures.unions;
  sequences = sequences_kept c.offers_after.new.world c.finish.new.world c.finish.ensures.leads c.offers_after.new.self.sequences c.finish.new.self.sequences c.finish.ensures.sequences c.offers_after.ensures.right.sequences;
}

pub node_after-returns-in_err-insert-clause-right : goal.node_after-returns-in_err-insert-clause-right
node_after-returns-in_err-insert-clause-right t c = record {
  unions = c.finish.ensures.unions;
  sequences = sequence_learnt c.finish.new.world c.args.map c.finish.new.self.sequences c.insert.new.self c.args.node c.in_ok-followed.followed
      (sequences_kept c.offers_after.new.world c.finish.new.world c.finish.ensures.leads c.offers_after.new.self.sequences c.finish.new.self.sequences c.finish.ensures.sequences c.offers_after.ensures.right.sequences)
      c.in_ok-followed.ensures.sequence c.insert.ensures;
}

pub node_after-returns-clause-right : goal.node_after-returns-clause-right
node_after-returns-clause-right t c = record {
  unions = c.finish.ensures.unions;
  sequences = sequence_learnt c.finish.new.world c.args.map c.finish.new.self.sequences c.insert.new.self c.args.node c.in_ok-followed.followed
      (sequences_kept c.offers_after.new.world c.finish.new.world c.finish.ensures.leads c.offers_after.new.self.sequences c.finish.new.self.sequences c.finish.ensures.sequences c.offers_after.ensures.right.sequences)
      c.in_ok-followed.ensures.sequence c.insert.ensures;
}
