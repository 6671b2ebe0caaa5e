-- Tables of names of which each text is a place.
use Rattle.std.specs.Prelude.{ℕ, List}
use Rattle.occ_script_back.specs.occ_parse_rules.Places.{Place}
use Rattle.occ_script_back.specs.occ_print_back.Placed.{IsTable}

-- the texts of a table are those of some places
abbrev pub HasPlaces : List (List ℕ) → Type 0
HasPlaces names = (P : ℕ → Place) × IsTable names P
