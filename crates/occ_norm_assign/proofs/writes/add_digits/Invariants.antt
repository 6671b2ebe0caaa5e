use Rattle.std.proofs.Common.{◌≡◌, ◌++◌, take}
use Rattle.std.specs.List.{All}
use Rattle.occ_norm_frame.specs.occ_dd.Store.{IsKnown}
use Rattle.occ_norm_frame.specs.occ_dd.declared.store.Store.{Store}
use Rattle.occ_norm_assign.specs.Writes.{AreWrites}
use Rattle.occ_norm_assign.specs.Written.{digit_writes}
use Rattle.occ_norm_assign.proofs.writes.add_digits.Given as goal

abbrev pub invariant-loop-place : goal.invariant-loop-place
invariant-loop-place l = record {
  writes : (s : Store) → AreWrites s l.initial.writes.items → All (IsKnown s) l.sets → AreWrites s l.writes.items;
  each : l.writes.items ≡ l.initial.writes.items ++ digit_writes l.first (take l.place l.sets);
}
