-- The bits that an assignment writes.
use Rattle.std.specs.Prelude.{◌<◌, List}
use Rattle.std.specs.List.{All}
use Rattle.occ_norm_frame.specs.occ_dd.Store.{IsKnown}
use Rattle.occ_norm_frame.specs.occ_dd.declared.store.Store.{Store}
use Rattle.occ_norm_assign.specs.declared.writes.Write.{Write}

-- each write is of a bit of the states, by a set of the store
pub record IsWrite (s : Store) (write : Write) : Type 0 where
  pub within : write.bit < 64
  pub known : IsKnown s write.set

abbrev pub AreWrites : Store → List Write → Type 0
AreWrites s writes = All (IsWrite s) writes
