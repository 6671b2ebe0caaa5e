use Rattle.std.proofs.Common.{◌≡◌, take}
use Rattle.occ_syntax.specs.Counts.{capped}
use Rattle.occ_target.specs.Sizes.{states_size}
use Rattle.occ_target.proofs.count.states_size.Given as goal

abbrev pub invariant-loop-row : goal.invariant-loop-row
invariant-loop-row l = l.count ≡ capped (states_size l.sizes (take l.row-index l.states))
