use Rattle.std.proofs.Common.{take}
use Rattle.occ_norm_frame.specs.occ_bits.Digits.{AreDigits, KeepComposed}
use Rattle.occ_norm_frame.specs.Maps.{Extends}
use Rattle.occ_norm_assign.specs.Transfer.{ArePut}
use Rattle.occ_norm_assign.proofs.moves.put.Given as goal

abbrev pub invariant-loop-write : goal.invariant-loop-write
invariant-loop-write l = record {
  extends : Extends l.fn.world l.world;
  are : AreDigits l.world.store l.after.items;
  memo : KeepComposed l.world.store l.before l.memo;
  put : ArePut l.world.store l.before (take l.write-index l.writes) l.after.items;
}
