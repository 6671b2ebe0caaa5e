use Rattle.std.proofs.Common.{◌≡◌, ◌++◌, take}
use Rattle.std.specs.List.{flat_map}
use Rattle.occ_nform_table.specs.Rows.{end_line}
use Rattle.occ_nform_table.proofs.text.push_ends.Given as goal

abbrev pub invariant-loop-state : goal.invariant-loop-state
invariant-loop-state l = l.text.items ≡ l.fn.text.items ++ flat_map end_line (take l.state-index l.ends)
