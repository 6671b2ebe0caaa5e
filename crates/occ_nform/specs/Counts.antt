-- How large a table is.
use Rattle.std.specs.Prelude.{ℕ, ◌+◌, max, List, [], ◌∷◌, ◌++◌, length}
use Rattle.occ_nform_rows.specs.occ_nform_table.Judging.{height_over}
use Rattle.occ_nform_rows.specs.occ_nform_table.declared.table.TableRow.{TableRow}

-- the OFFER lines of rows together
abbrev pub offers_in : List TableRow → ℕ
offers_in [] = 0
offers_in (row ∷ rows) = length row.offers + offers_in rows

-- the heights of rows, behind those of the rows before
abbrev pub heights_of : List ℕ → List TableRow → List ℕ
heights_of heights [] = heights
heights_of heights (row ∷ rows) = heights_of (heights ++ height_over heights row.offers ∷ []) rows

-- the greatest number of a list, and 0 where there is none
abbrev pub greatest : List ℕ → ℕ
greatest [] = 0
greatest (n ∷ ns) = max n (greatest ns)
