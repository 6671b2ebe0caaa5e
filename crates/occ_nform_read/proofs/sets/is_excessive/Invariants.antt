use Rattle.std.proofs.Common.{◌≡◌, take, false}
use Rattle.std.specs.List.{list_any}
use Rattle.occ_nform_read.specs.Marks.{is_more}
use Rattle.occ_nform_read.proofs.sets.is_excessive.Given as goal

abbrev pub invariant-loop-other : goal.invariant-loop-other
invariant-loop-other l = list_any (is_more l.set) (take l.other-index l.sets) ≡ false
