use Rattle.std.proofs.Common.{◌≡◌, ◌++◌, take}
use Rattle.std.specs.List.{flat_map}
use Rattle.occ_draw.specs.Pictures.{accept_line}
use Rattle.occ_draw.proofs.rows.push_accepts.Given as goal

abbrev pub invariant-loop-set : goal.invariant-loop-set
invariant-loop-set l = l.label.items ≡ l.fn.label.items ++ flat_map (accept_line l.names) (take l.set-index l.accepts)
