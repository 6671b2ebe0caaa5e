-- The lines of a table.
use Rattle.std.specs.Prelude.{ℕ, ◌++◌, List, codes, decimal}
use Rattle.std.specs.List.{All}
use Rattle.occ_syntax.specs.occ_base.declared.names.Name.{Name}
use Rattle.occ_syntax.specs.declared.scope.Kind.{Kind}
use Rattle.occ_nform_rows.specs.occ_behaviour.Texts.{state_text}
use Rattle.occ_nform_rows.specs.occ_nform_table.Judging.{row_text}
use Rattle.occ_nform_rows.specs.occ_nform_table.Lines.{text_of}
use Rattle.occ_nform_rows.specs.occ_nform_table.Texts.{param_text, state_at_place}
use Rattle.occ_nform_rows.specs.occ_nform_table.declared.table.TableRow.{TableRow}
use Rattle.occ_nform_rows.specs.occ_nform_table.Rows.{RowIsNamed}

abbrev pub param_line : List (List ℕ) → Name × Kind → List ℕ
param_line names p = codes "PARAM " ++ param_text (text_of names p.0) p.1 ++ codes "\n"

-- row n with its ROW line
abbrev pub row_lines : List (List ℕ) → ℕ → TableRow → List ℕ
row_lines names n row = codes "ROW " ++ decimal n ++ codes "\n" ++ row_text names row

-- the line of the k-th state, whose row is row n
abbrev pub state_line : List (Name × Kind) → ℕ → ℕ → List ℕ
state_line params k n = codes "STATE " ++ state_text (state_at_place params k) ++ codes " " ++ decimal n ++ codes "\n"

-- the channels of all events have names
abbrev pub RowsAreNamed : List (List ℕ) → List TableRow → Type 0
RowsAreNamed names rows = All (RowIsNamed names) rows
