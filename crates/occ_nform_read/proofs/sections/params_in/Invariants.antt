use Rattle.std.proofs.Common.{◌≡◌, length, []}
use Rattle.occ_nform_table.specs.occ_lex.Rows.{rows}
use Rattle.occ_nform_table.specs.Reading.{params_in}
use Rattle.occ_nform_table.specs.Tables.{IsInterface}
use Rattle.occ_nform_read.specs.Found.{AreApart}
use Rattle.occ_nform_read.proofs.sections.params_in.Given as goal

abbrev pub invariant-loop-line : goal.invariant-loop-line
invariant-loop-line l = record {
  so_far : params_in l.names l.params (rows l.rest) ≡ params_in l.fn.names [] (rows l.text);
  interface : IsInterface l.names l.params;
  apart : AreApart l.params;
}

abbrev pub decreases-loop-line : goal.decreases-loop-line
decreases-loop-line l = length l.rest
