-- A printed part reads back.
use Rattle.std.specs.Prelude.{ℕ, ◌≡◌, List, length, None}
use Rattle.occ_script_write.specs.occ_base.declared.names.Name.{Name}
use Rattle.occ_script_write.specs.occ_syntax.declared.scope.Kind.{Kind}
use Rattle.occ_script_write.specs.occ_syntax.Tree.{Tree}
use Rattle.occ_script_write.specs.occ_lex.Rows.{read_rows, rows}
use Rattle.occ_script_write.specs.occ_lex.Symbols.{rows_of, with_names_of_all}
use Rattle.occ_script.specs.occ_parse_part.Parts.{IsPart}
use Rattle.occ_script.specs.occ_parse_part.Resolving.{part_fault, part_process}
use Rattle.occ_print_back.specs.occ_parse_rules.Places.{Place}
use Rattle.occ_script_write.specs.occ_print.Lines.{part_lines}
use Rattle.occ_script_write.specs.occ_print.Spelled.{part_text}
use Rattle.occ_print_back.specs.Read.{line_rows}
use Rattle.occ_script_back.specs.Part.{lines_behind, lines_of_part, part_read, table_behind, text_behind}
use Rattle.occ_script_back.specs.Tables.{Grows}

-- The lines behind a text, the first of which has this number, are read without a fault of tokens as those of the part, and
-- leave the table of names as it is.
pub record LinesAreThere (names : List (List ℕ)) (P : ℕ → Place) (front : List ℕ) (number : ℕ) (part : Tree) : Type 0 where
  pub faultless : (read_rows number (length front) (rows (part_text names 1 part))).1 ≡ None
  pub rows_are : rows_of (text_behind names front part) names (lines_behind names front number part) ≡ line_rows P number (part_lines 1 part)
  pub table : with_names_of_all (text_behind names front part) names (lines_behind names front number part) ≡ names

-- These lines are a part, with the same table of names. The table with the elements of its arrays is one of places again. As it is
-- read then, the part has no fault in the scope, and stands there for the process that was printed.
pub record PartReadsBack (names : List (List ℕ)) (P : ℕ → Place) (scope : List (Name × Kind)) (front : List ℕ) (number : ℕ) (part : Tree) : Type 0 where
  pub there : LinesAreThere names P front number part
  pub is_part : IsPart (text_behind names front part) names (lines_behind names front number part) (lines_of_part P number part)
  pub grows : Grows names P (table_behind names P number part)
  pub faultless : part_fault (part_read names P number part) scope ≡ None
  pub stands : part_process (part_read names P number part) scope ≡ part
