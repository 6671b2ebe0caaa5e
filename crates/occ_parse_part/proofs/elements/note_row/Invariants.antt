use Rattle.std.proofs.Common.{◌≡◌, drop}
use Rattle.occ_parse_part.specs.Elements.{named_row, names_found}
use Rattle.occ_parse_part.proofs.elements.note_row.Given as goal

-- the names of the row that are left are noted behind those so far
abbrev pub invariant-loop-k : goal.invariant-loop-k
invariant-loop-k l = named_row l.array l.k (drop l.k l.row) (names_found l.places.entries) ≡ named_row l.array 0 l.row (names_found l.fn.places.entries)
