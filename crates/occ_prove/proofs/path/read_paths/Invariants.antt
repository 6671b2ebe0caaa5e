use Rattle.std.proofs.Common.{take}
use Rattle.std.specs.List.{AllByRecursion}
use Rattle.occ_prove.specs.Paths.{HasShortPath}
use Rattle.occ_prove.proofs.path.read_paths.Given as goal

-- the paths so far are short
abbrev pub invariant-loop-step : goal.invariant-loop-step
invariant-loop-step l = AllByRecursion HasShortPath (take l.step-index l.steps)
