use Rattle.std.proofs.Common.{take}
use Rattle.occ_norm_frame.specs.Maps.{Extends}
use Rattle.occ_syntax.specs.Tree.{seq}
use Rattle.occ_syntax.specs.View.{trees}
use Rattle.occ_norm_assign.specs.Transfer.{IsMade}
use Rattle.occ_norm_assign.proofs.run.composed.Given as goal

abbrev pub invariant-loop-place : goal.invariant-loop-place
invariant-loop-place l = record {
  extends : Extends l.initial.world l.world;
  made : IsMade l.world l.frame.vars l.frame.layout (seq (trees (take l.place l.parts))) l.before.items l.now.items;
}
