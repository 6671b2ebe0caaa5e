use Rattle.std.proofs.Common.{take}
use Rattle.occ_norm_frame.specs.Maps.{Extends}
use Rattle.occ_syntax.specs.View.{exps, numbers}
use Rattle.occ_norm_assign.specs.Writes.{AreWrites}
use Rattle.occ_norm_assign.specs.Written.{AreAssigned}
use Rattle.occ_norm_assign.proofs.writes.writes_of.Given as goal

abbrev pub invariant-loop-place : goal.invariant-loop-place
invariant-loop-place l = record {
  extends : Extends l.fn.world l.world;
  writes : AreWrites l.world.store l.writes.items;
  assigned : AreAssigned l.world.store l.frame.layout (numbers (take l.place l.vars)) (exps (take l.place l.values)) l.writes.items;
}
