use Rattle.std.proofs.Common.{◌≡◌, drop}
use Rattle.occ_target.specs.Rows.{variable_of}
use Rattle.occ_target.proofs.widths.variable_of.Given as goal

abbrev pub invariant-loop-name : goal.invariant-loop-name
invariant-loop-name l = variable_of l.inputs l.width ≡ variable_of (drop l.name-index l.inputs) l.width
