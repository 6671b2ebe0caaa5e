use Rattle.std.proofs.Common.{◌≡◌, drop}
use Rattle.occ_bits.specs.Layout.{entry_of}
use Rattle.occ_norm_frame.proofs.frame.find.Given as goal

abbrev pub invariant-loop-variable : goal.invariant-loop-variable
invariant-loop-variable l = entry_of l.entries l.name.0 ≡ entry_of (drop l.variable-index l.entries) l.name.0
