use Rattle.std.proofs.Common.{◌≡◌, drop}
use Rattle.occ_nform_table.specs.Normal.{first_empty}
use Rattle.occ_nform_read.proofs.whole.empty_fault.Given as goal

abbrev pub invariant-loop-row : goal.invariant-loop-row
invariant-loop-row l = record {
  same : first_empty 0 l.rows ≡ first_empty l.n (drop l.row-index l.rows);
  place : l.n ≡ l.row-index;
}
