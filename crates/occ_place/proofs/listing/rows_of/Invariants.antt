use Rattle.std.proofs.Common.{◌≡◌, map, take}
use Rattle.occ_place.specs.declared.row.Row.{Row}
use Rattle.occ_place.proofs.listing.rows_of.Given as goal

abbrev pub invariant-loop-place : goal.invariant-loop-place
invariant-loop-place l = map (λ (row : Row). row.span) l.rows.items ≡ take l.place l.spans
