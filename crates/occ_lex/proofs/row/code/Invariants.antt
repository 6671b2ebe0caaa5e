use Rattle.std.proofs.Common.{length, take, drop, ◌++◌, ◌-◌, ◌≡◌, ◌≤◌}
use Rattle.occ_lex.specs.Rows.{code_of}
use Rattle.occ_lex.proofs.row.code.Given as goal

abbrev pub invariant-loop-len : goal.invariant-loop-len
invariant-loop-len l = record {
  within : l.len ≤ length l.row;
  so_far : take l.len l.row ++ code_of (drop l.len l.row) ≡ code_of l.row;
}

abbrev pub decreases-loop-len : goal.decreases-loop-len
decreases-loop-len l = length l.row - l.len
