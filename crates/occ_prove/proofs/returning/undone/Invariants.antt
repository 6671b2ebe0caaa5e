use Rattle.std.proofs.Common.{drop}
use Rattle.occ_tool_run.specs.occ_engine.Moved.{moves_of}
use Rattle.occ_syntax.specs.View.{tree}
use Rattle.occ_prove.proofs.Steps.{IsReturning}
use Rattle.occ_prove.proofs.returning.undone.Given as goal

-- the steps that are left, and those that are undone
abbrev pub invariant-loop-step : goal.invariant-loop-step
invariant-loop-step l =
    IsReturning l.fn.from.params (tree l.fn.from.body) (tree l.fn.outcome.to.body) (moves_of l.step-items) (moves_of (drop l.step-index l.step-items)) (tree l.here.body)
    (moves_of l.back.items)
