-- What a text is read as with a table of names.
use Rattle.std.specs.Prelude.{ℕ, ◌≡◌, List, length, Ok}
use Rattle.occ_nform.specs.occ_nform_table.Normal.{Parts, text_read}

-- The text reads with these names as a normal table, which has so many rows.
pub record IsReadWith (names : List (List ℕ)) (text : List ℕ) (count : ℕ) : Type 0 where
  pub table : Parts
  pub reads : text_read names text ≡ Ok table
  pub rows : length table.rows ≡ count
