-- A map by its number.
use Rattle.std.specs.Prelude.{ℕ}
use Rattle.occ_weave.specs.occ_mdd.declared.map.MapId.{MapId}

abbrev pub map_id : ℕ → MapId
map_id n = record { 0 = n }
