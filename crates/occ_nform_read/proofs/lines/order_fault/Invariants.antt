use Rattle.std.proofs.Common.{◌≡◌, ◌+◌, drop, nat_lt, None}
use Rattle.occ_nform_table.specs.Judging.{list_marks}
use Rattle.occ_nform_table.specs.Normal.{first_mark}
use Rattle.occ_nform_read.proofs.lines.order_fault.Given as goal

abbrev pub invariant-loop-place : goal.invariant-loop-place
invariant-loop-place l = record {
  same : first_mark l.line (list_marks nat_lt None l.places) ≡ first_mark l.at (list_marks nat_lt l.before (drop l.place-index l.places));
  at_line : l.at ≡ l.line + l.place-index;
}
