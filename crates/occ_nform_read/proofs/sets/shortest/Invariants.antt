use Rattle.std.proofs.Common.{ℕ, ◌≤◌, List, length, take}
use Rattle.std.specs.List.{All}
use Rattle.occ_nform_read.proofs.sets.shortest.Given as goal

abbrev pub invariant-loop-set : goal.invariant-loop-set
invariant-loop-set l = All (λ (set : List ℕ). l.least ≤ length set) (take l.set-index l.sets)
