use Rattle.std.proofs.Common.{take}
use Rattle.occ_norm_frame.specs.occ_follow.Sequence.{HasNodes}
use Rattle.occ_norm_frame.specs.Changes.{IsChanged}
use Rattle.occ_norm_frame.specs.Maps.{Extends}
use Rattle.occ_norm_assign.specs.Writes.{AreWrites}
use Rattle.occ_norm_assign.specs.Written.{change_by}
use Rattle.occ_norm_assign.proofs.writes.applied.Given as goal

abbrev pub invariant-loop-write : goal.invariant-loop-write
invariant-loop-write l = record {
  extends : Extends l.initial.world l.world;
  nodes : HasNodes l.world l.map;
  writes : AreWrites l.world.store l.writes;
  changed : IsChanged l.world (change_by l.initial.world.store l.keep (take l.write-index l.writes)) l.initial.map l.map;
}
