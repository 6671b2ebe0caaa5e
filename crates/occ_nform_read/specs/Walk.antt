-- What is known of the rows that are left, on the way through the rows of a table.
use Rattle.std.specs.Prelude.{ℕ, ◌+◌, ◌≡◌, ◌≤◌, List, [], length, Option, None}
use Rattle.std.specs.List.{All}
use Rattle.occ_syntax.specs.occ_base.declared.names.Name.{Name}
use Rattle.occ_syntax.specs.declared.scope.Kind.{Kind}
use Rattle.occ_nform_table.specs.declared.table.TableRow.{TableRow}
use Rattle.occ_nform_table.specs.Judging.{rows_marks}
use Rattle.occ_nform_table.specs.Normal.{first_mark}
use Rattle.occ_nform_table.specs.Tables.{AreRowsOf}

-- Rows are left, the first of them row n with its ROW line at the given line; none in front of them has a fault.
pub record Walked (names : List (List ℕ)) (params : List (Name × Kind)) (all : List TableRow) (n line : ℕ) (heights : List ℕ) (before : Option (ℕ × List ℕ)) (left : List TableRow) : Type 0 where
  pub same : first_mark (2 + length params) (rows_marks names params [] None all) ≡ first_mark line (rows_marks names params heights before left)
  pub fits : line + length (rows_marks names params heights before left) ≤ 4294967295
  pub few : n + length left ≤ 4294967295
  pub forms : AreRowsOf params n left
  pub count : length heights ≡ n
  pub low : All (λ h. h ≤ n) heights
