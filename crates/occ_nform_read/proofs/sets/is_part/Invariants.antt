use Rattle.std.proofs.Common.{◌≡◌, take, true}
use Rattle.occ_nform_read.specs.Marks.{is_part}
use Rattle.occ_nform_read.proofs.sets.is_part.Given as goal

abbrev pub invariant-loop-number : goal.invariant-loop-number
invariant-loop-number l = is_part (take l.number-index l.part) l.whole ≡ true
