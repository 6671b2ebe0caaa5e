use Rattle.std.proofs.Common.{◌+◌, ◌*◌, ◌||◌, take}
use Rattle.occ_node.specs.World.{Leads, fails, ends, row_fails, row_ends}
use Rattle.occ_choice.specs.Joined.{AreReached, weight}
use Rattle.occ_choice.specs.Union.{AreUnions}
use Rattle.occ_choice.proofs.unite.+union.Given as goal

abbrev pub decreases-add : goal.decreases-add
decreases-add l = 3 * l.b.0 + 1

abbrev pub decreases-either : goal.decreases-either
decreases-either l = weight l.q

abbrev pub decreases-union_with : goal.decreases-union_with
decreases-union_with l = 3 * l.b.0 + 2

abbrev pub invariant-add-loop-event : goal.invariant-add-loop-event
invariant-add-loop-event l = record {
  leads : Leads l.initial.world l.world;
  unions : AreUnions l.world l.unions;
  reached : AreReached l.world l.offers (take l.event-index l.event-items) (λ t X. row_fails l.initial.world l.row t X || fails l.initial.world l.b t X) (λ t x. row_ends l.initial.world l.row t x || ends l.initial.world l.b t x);
}
