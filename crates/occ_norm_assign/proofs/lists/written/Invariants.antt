use Rattle.std.proofs.Common.{◌≡◌, take}
use Rattle.occ_norm_assign.specs.Written.{onto}
use Rattle.occ_norm_assign.proofs.lists.written.Given as goal

abbrev pub invariant-loop-write : goal.invariant-loop-write
invariant-loop-write l = l.made ≡ onto l.world.store (take l.write-index l.writes) l.state l.state
