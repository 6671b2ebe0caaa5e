use Rattle.std.proofs.Common.{◌≡◌, true, List, [], ap, arith}
use Rattle.std.proofs.lemmas.Bool.{false≢true}
use Rattle.occ_desk.specs.occ_base.declared.event.Event.{Event}
use Rattle.occ_behaviour_read.specs.occ_dd.Store.{IsKnown, has}
use Rattle.occ_behaviour_read.specs.occ_dd.declared.set.SetId.{SetId}
use Rattle.occ_follow.specs.occ_accept.Accept.{in_some}
use Rattle.occ_follow.specs.occ_accept.Order.{strict}
use Rattle.occ_follow.specs.occ_node.Offers.{offer_cmp, are_below}
use Rattle.occ_follow.specs.occ_node.World.{IsFit, nodes_of}
use Rattle.occ_follow.specs.occ_node.declared.node.NodeId.{NodeId}
use Rattle.occ_follow.specs.occ_node.declared.world.World.{World}
use Rattle.occ_follow.proofs.from_node.Behaviours.{alive_ends, within_offers}
use Rattle.occ_core_tests.proofs.tests.follow.ended.Goals as goal

fit_ended : (w : World) (set : SetId) (accepts : List (List Event)) (offers : List (Event × NodeId)) → IsKnown w.store set → offers ≡ [] → ((e : Event) → in_some accepts e ≡ true → in_some [] e ≡ true) → has w.store set 0 ≡ true
    → IsFit w (record { ends = set; accepts = accepts; offers = offers })
fit_ended w set accepts offers known none events h = record {
  known = known;
  increasing = ap (strict offer_cmp) none;
  there = ap (are_below (nodes_of w)) none;
  offered = within_offers offers accepts (λ e k. absurd (false≢true (events e k)));
  alive = alive_ends w.store (record { ends = set; accepts = accepts; offers = offers }) 0 (omega arith) h;
}

pub make-requires : goal.make-requires
make-requires c = fit_ended c.args.world.now c.full-ends.result c.in_ok-accepts.accepts c.new.result c.full-ends.ensures.known c.new.ensures c.in_ok-accepts.ensures.events (c.full-ends.ensures.members 0)
