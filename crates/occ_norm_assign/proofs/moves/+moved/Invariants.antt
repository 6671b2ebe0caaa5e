use Rattle.std.proofs.Common.{◌≤◌, drop, length, take}
use Rattle.occ_norm_frame.specs.occ_dd.Store.{IsKnown}
use Rattle.occ_norm_frame.specs.occ_bits.Digits.{AreDigits}
use Rattle.occ_norm_frame.specs.Maps.{Extends}
use Rattle.occ_syntax.specs.Tree.{seq}
use Rattle.occ_syntax.specs.View.{cases, tree, trees}
use Rattle.occ_syntax.proofs.Weights.{weight, weight_of_all, weight_of_cases}
use Rattle.occ_norm_assign.specs.Transfer.{IsMade}
use Rattle.occ_norm_assign.proofs.Choosing.{AreChosen}
use Rattle.occ_norm_assign.proofs.moves.+moved.Given as goal

abbrev pub decreases-moved : goal.decreases-moved
decreases-moved l = weight (tree l.part.now)

abbrev pub decreases-in_turn : goal.decreases-in_turn
decreases-in_turn l = weight_of_all (trees l.parts.now)

abbrev pub decreases-chosen : goal.decreases-chosen
decreases-chosen l = weight_of_cases (cases l.choices.now)

abbrev pub invariant-in_turn-loop-place : goal.invariant-in_turn-loop-place
invariant-in_turn-loop-place l = record {
  extends : Extends l.fn.world l.world;
  made : IsMade l.world l.frame.vars l.frame.layout (seq (trees (take l.place l.parts))) l.before l.now.items;
}

abbrev pub invariant-chosen-loop-left : goal.invariant-chosen-loop-left
invariant-chosen-loop-left l = record {
  extends : Extends l.fn.world l.world;
  below : l.left ≤ length l.choices;
  are : AreDigits l.world.store l.after.items;
  known : IsKnown l.world.store l.beyond;
  chosen : AreChosen l.world l.frame.vars l.frame.layout (cases (drop l.left l.choices)) l.before l.after.items l.beyond;
}

abbrev pub decreases-chosen-loop-left : goal.decreases-chosen-loop-left
decreases-chosen-loop-left l = l.left
