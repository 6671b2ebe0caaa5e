-- How many rows a normal text has.
use Rattle.std.specs.Prelude.{ℕ, ◌+◌, Bool, if◌then◌else◌, List, [], ◌∷◌, nat_eq, codes}
use Rattle.std.specs.List.{starts_with}
use Rattle.occ_witness.specs.occ_lex.Rows.{rows}

-- a line that begins with the word ROW and a space
abbrev pub is_row_line : List ℕ → Bool
is_row_line line = starts_with nat_eq line (codes "ROW ")

-- how many of the lines are such
abbrev pub row_lines : List (List ℕ) → ℕ
row_lines [] = 0
row_lines (line ∷ lines) = if is_row_line line then 1 + row_lines lines else row_lines lines

-- how many of a text's lines are such
abbrev pub rows_of : List ℕ → ℕ
rows_of text = row_lines (rows text)
