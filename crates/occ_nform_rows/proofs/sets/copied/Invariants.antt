use Rattle.std.proofs.Common.{◌≡◌, take}
use Rattle.occ_nform_rows.proofs.sets.copied.Given as goal

abbrev pub invariant-loop-list : goal.invariant-loop-list
invariant-loop-list l = l.sets ≡ take l.list-index l.lists
