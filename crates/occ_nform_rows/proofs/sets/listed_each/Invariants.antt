use Rattle.std.proofs.Common.{take}
use Rattle.occ_nform_rows.specs.Lists.{AreLists}
use Rattle.occ_nform_rows.proofs.sets.listed_each.Given as goal

abbrev pub invariant-loop-set : goal.invariant-loop-set
invariant-loop-set l = AreLists l.params (take l.set-index l.sets) l.lists.items
