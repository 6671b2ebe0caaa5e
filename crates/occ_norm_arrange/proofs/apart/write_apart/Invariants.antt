use Rattle.std.proofs.Common.{◌≤◌, drop, length}
use Rattle.occ_syntax.specs.View.{trees}
use Rattle.occ_norm_arrange.proofs.OwnNames.{AreLater}
use Rattle.occ_norm_arrange.proofs.apart.write_apart.Given as goal

-- the last parts write those names, each its own
abbrev pub invariant-loop-left : goal.invariant-loop-left
invariant-loop-left l = record {
  below : l.left ≤ length l.parts;
  later : AreLater l.later.items (trees (drop l.left l.parts));
}

abbrev pub decreases-loop-left : goal.decreases-loop-left
decreases-loop-left l = l.left
