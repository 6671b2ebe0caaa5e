use Rattle.std.proofs.Common.{◌≡◌, length, take}
use Rattle.std.specs.List.{filter}
use Rattle.occ_syntax.specs.Counts.{capped}
use Rattle.occ_target.specs.Inputs.{is_input_width}
use Rattle.occ_target.proofs.inputs.count_of.Given as goal

abbrev pub invariant-loop-width : goal.invariant-loop-width
invariant-loop-width l = l.count ≡ capped (length (filter (is_input_width l.params) (take l.width-index l.widths)))
