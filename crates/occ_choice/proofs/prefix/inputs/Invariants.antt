use Rattle.std.proofs.Common.{◌≡◌, take}
use Rattle.occ_choice.specs.Branches.{inputs_from}
use Rattle.occ_choice.proofs.prefix.inputs.Given as goal

abbrev pub invariant-loop-place : goal.invariant-loop-place
invariant-loop-place l = l.branches.items ≡ inputs_from l.chan 0 (take l.place l.nexts)
