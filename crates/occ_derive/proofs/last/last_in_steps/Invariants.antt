use Rattle.std.proofs.Common.{◌≤◌, ℕ, drop}
use Rattle.std.specs.List.{AllByRecursion}
use Rattle.occ_derive.specs.Derived.{IsBelow}
use Rattle.occ_derive.proofs.last.last_in_steps.Given as goal

-- where those that are left are below a number, and the greatest so far is, all are
abbrev pub invariant-loop-step : goal.invariant-loop-step
invariant-loop-step l = (m : ℕ) → l.last ≤ m → AllByRecursion (IsBelow m) (drop l.step-index l.steps) → AllByRecursion (IsBelow m) l.steps
