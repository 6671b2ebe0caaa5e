use Rattle.std.proofs.Common.{◌≡◌, ◌++◌, length, reverse}
use Rattle.occ_prove.proofs.joining.behind.Given as goal

-- what is there with what is left behind it
abbrev pub invariant-loop-step : goal.invariant-loop-step
invariant-loop-step l = l.steps ++ reverse l.back.items ≡ l.fn.there ++ reverse l.fn.back.items

abbrev pub decreases-loop-step : goal.decreases-loop-step
decreases-loop-step l = length l.back.items
