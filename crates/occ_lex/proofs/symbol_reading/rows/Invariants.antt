use Rattle.std.proofs.Common.{◌≡◌, ◌++◌, drop}
use Rattle.occ_lex.specs.Symbols.{Extends, rows_of, with_names_of_all}
use Rattle.occ_lex.proofs.symbol_reading.rows.Given as goal

-- the rows so far, and those of the lines that are left, are those of all
abbrev pub invariant-loop-line : goal.invariant-loop-line
invariant-loop-line l = record {
  rows : l.rows.items ++ rows_of l.text l.names (drop l.line-index l.lines) ≡ rows_of l.text l.initial.names l.lines;
  table : with_names_of_all l.text l.names (drop l.line-index l.lines) ≡ with_names_of_all l.text l.initial.names l.lines;
  extends : Extends l.initial.names l.names;
}
