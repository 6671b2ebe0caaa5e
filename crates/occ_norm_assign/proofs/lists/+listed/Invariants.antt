use Rattle.std.proofs.Common.{◌≤◌, drop, length, take}
use Rattle.occ_norm_frame.specs.occ_dd.Store.{IsKnown}
use Rattle.occ_norm_frame.specs.Maps.{Extends}
use Rattle.occ_syntax.specs.Tree.{seq}
use Rattle.occ_syntax.specs.View.{cases, tree, trees}
use Rattle.occ_syntax.proofs.Weights.{weight, weight_of_all, weight_of_cases}
use Rattle.occ_norm_assign.specs.Lists.{AreStates, IsListed}
use Rattle.occ_norm_assign.proofs.Listing.{AreChosenOn}
use Rattle.occ_norm_assign.proofs.lists.+listed.Given as goal

abbrev pub decreases-listed : goal.decreases-listed
decreases-listed l = weight (tree l.part.now)

abbrev pub decreases-listed_all : goal.decreases-listed_all
decreases-listed_all l = weight_of_all (trees l.parts.now)

abbrev pub decreases-listed_choices : goal.decreases-listed_choices
decreases-listed_choices l = weight_of_cases (cases l.choices.now)

abbrev pub invariant-listed_all-loop-place : goal.invariant-listed_all-loop-place
invariant-listed_all-loop-place l = record {
  extends : Extends l.fn.world l.world;
  made : IsListed l.frame.vars l.frame.layout l.frame.bits (seq (trees (take l.place l.parts))) l.before l.now.items;
}

abbrev pub invariant-listed_choices-loop-left : goal.invariant-listed_choices-loop-left
invariant-listed_choices-loop-left l = record {
  extends : Extends l.fn.world l.world;
  below : l.left ≤ length l.choices;
  are : AreStates l.frame.bits l.after.items;
  known : IsKnown l.world.store l.beyond;
  chosen : AreChosenOn l.world l.frame.vars l.frame.layout l.frame.bits (cases (drop l.left l.choices)) l.before l.after.items l.beyond;
}

abbrev pub decreases-listed_choices-loop-left : goal.decreases-listed_choices-loop-left
decreases-listed_choices-loop-left l = l.left
