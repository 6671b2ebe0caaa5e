use Rattle.std.proofs.Common.{◌<◌, length, drop}
use Rattle.occ_norm_frame.specs.occ_follow.Sequence.{HasNodes}
use Rattle.occ_norm_frame.specs.Maps.{Extends}
use Rattle.occ_norm_par.specs.Joined.{IsJoined}
use Rattle.occ_norm_par.proofs.parallel.Sides.joined.Given as goal

-- the parts from there on are joined
abbrev pub invariant-loop-start : goal.invariant-loop-start
invariant-loop-start l = record {
  extends : Extends l.fn.world l.world;
  nodes : HasNodes l.world l.map;
  below : l.start < length l.maps;
  joined : IsJoined l.self l.start (drop l.start l.maps) l.fn.world l.world l.map;
}

abbrev pub decreases-loop-start : goal.decreases-loop-start
decreases-loop-start l = l.start
