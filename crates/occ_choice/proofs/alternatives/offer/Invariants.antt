use Rattle.std.proofs.Common.{take}
use Rattle.std.specs.List.{list_any}
use Rattle.occ_node.specs.World.{Leads}
use Rattle.occ_choice.specs.Branches.{event_fails, event_ends}
use Rattle.occ_choice.specs.Joined.{AreReached}
use Rattle.occ_choice.specs.Union.{AreUnions}
use Rattle.occ_choice.proofs.alternatives.offer.Given as goal

abbrev pub invariant-loop-event : goal.invariant-loop-event
invariant-loop-event l = record {
  leads : Leads l.initial.world l.world;
  unions : AreUnions l.world l.unions;
  reached : AreReached l.world l.offers (take l.event-index l.event-items) (λ t X. list_any (event_fails l.initial.world t X) l.branches) (λ t x. list_any (event_ends l.initial.world t x) l.branches);
}
