-- A printed part: its lines as a forest, and what is asked of it and of its names.
use Rattle.std.specs.Prelude.{ℕ, ◌≡◌, ◌≤◌, ◌<◌, ◌++◌, true, List, length}
use Rattle.std.specs.List.{AllByRecursion}
use Rattle.occ_script_write.specs.occ_base.declared.names.Name.{Name}
use Rattle.occ_script_write.specs.occ_syntax.declared.scope.Kind.{Kind}
use Rattle.occ_script_write.specs.occ_syntax.Scopes.{environment}
use Rattle.occ_script_write.specs.occ_syntax.Tree.{Tree}
use Rattle.occ_script_write.specs.occ_syntax.Types.{scope_kept, types_kept}
use Rattle.occ_script_write.specs.occ_lex.declared.token.Line.{Line}
use Rattle.occ_script_write.specs.occ_lex.Rows.{read_rows, rows}
use Rattle.occ_script.specs.occ_parse_part.Arrays.{array_names}
use Rattle.occ_script.specs.occ_parse_part.Elements.{elements_in, with_arrays}
use Rattle.occ_script.specs.occ_parse_part.Parts.{Part}
use Rattle.occ_print_back.specs.occ_parse_rules.Forest.{Forest, no_line, lines_at}
use Rattle.occ_print_back.specs.occ_parse_rules.Places.{Place}
use Rattle.occ_script_write.specs.occ_print.Known.{PartIsKnown}
use Rattle.occ_script_write.specs.occ_print.Lines.{most_symbols, part_lines}
use Rattle.occ_script_write.specs.occ_print.Spelled.{part_text}
use Rattle.occ_print_back.specs.Forest.{part_forest}
use Rattle.occ_print_back.specs.Placed.{IsTable}

-- a process that keeps types in a scope, whose names and those of the scope are those of the table
pub record IsPrintablePart (names : List (List ℕ)) (P : ℕ → Place) (scope : List (Name × Kind)) (part : Tree) : Type 0 where
  pub table : IsTable names P
  pub known : PartIsKnown (length names) part
  pub scope_known : AllByRecursion (λ (p : Name × Kind). p.0.0 < length names) scope
  pub scope_kept_is : scope_kept scope ≡ true
  pub types : types_kept part (environment scope) ≡ true

-- no line has more tokens than a line of a text may have
abbrev pub PartIsNarrow : Tree → Type 0
PartIsNarrow part = most_symbols (part_lines 1 part) ≤ 4096

-- its lines, of which the first has this number
abbrev pub lines_of_part : (ℕ → Place) → ℕ → Tree → Forest
lines_of_part P number part = part_forest P number part no_line

-- the arrays whose elements the lines name
abbrev pub arrays_of_part : (ℕ → Place) → ℕ → Tree → List Name
arrays_of_part P number part = array_names (lines_at 1 (lines_of_part P number part))

-- the table with the elements of these arrays
abbrev pub table_behind : List (List ℕ) → (ℕ → Place) → ℕ → Tree → List (List ℕ)
table_behind names P number part = with_arrays names (arrays_of_part P number part)

-- the part as it is read with these names in the table
abbrev pub part_read : List (List ℕ) → (ℕ → Place) → ℕ → Tree → Part
part_read names P number part = record {
  lines = lines_of_part P number part;
  elements = elements_in (table_behind names P number part) (arrays_of_part P number part);
}

-- the text of a part behind another text
abbrev pub text_behind : List (List ℕ) → List ℕ → Tree → List ℕ
text_behind names front part = front ++ part_text names 1 part

-- the lines that are read there, of which the first has this number
abbrev pub lines_behind : List (List ℕ) → List ℕ → ℕ → Tree → List Line
lines_behind names front number part = (read_rows number (length front) (rows (part_text names 1 part))).0
