use Rattle.std.proofs.Common.{◌≡◌, ◌+◌, drop, None}
use Rattle.occ_nform_table.specs.Normal.{first_mark}
use Rattle.occ_nform_read.specs.Marks.{set_marks, prior}
use Rattle.occ_nform_read.proofs.sets.sets_fault.Given as goal

abbrev pub invariant-loop-i : goal.invariant-loop-i
invariant-loop-i l = first_mark l.line (set_marks l.offers l.sets None l.sets) ≡ first_mark (l.line + l.i) (set_marks l.offers l.sets (prior l.sets l.i) (drop l.i l.sets))
