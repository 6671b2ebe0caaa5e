use Rattle.std.proofs.Common.{take}
use Rattle.occ_norm_frame.specs.occ_dd.Store.{IsSet}
use Rattle.occ_norm_frame.specs.Maps.{Extends}
use Rattle.occ_norm_assign.specs.Written.{IsFree, is_changed}
use Rattle.occ_norm_assign.proofs.writes.is_apart.Given as goal

abbrev pub invariant-loop-place : goal.invariant-loop-place
invariant-loop-place l = record {
  extends : Extends l.fn.world l.world;
  set : IsSet l.world.store l.set (is_changed l.fn.world.store l.fn.write);
  free : IsFree l.fn.world.store l.fn.write (take l.place l.others);
}
