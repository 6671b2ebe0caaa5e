use Rattle.std.proofs.Common.{◌≡◌, ◌++◌, take}
use Rattle.std.specs.List.{flat_map}
use Rattle.occ_nform_table.specs.Rows.{accept_line}
use Rattle.occ_nform_table.proofs.text.push_accepts.Given as goal

abbrev pub invariant-loop-set : goal.invariant-loop-set
invariant-loop-set l = l.text.items ≡ l.fn.text.items ++ flat_map (accept_line l.names) (take l.set-index l.accepts)
