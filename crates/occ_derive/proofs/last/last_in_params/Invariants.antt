use Rattle.std.proofs.Common.{◌≤◌, ℕ, drop}
use Rattle.std.specs.List.{AllByRecursion}
use Rattle.occ_derive.specs.Derived.{ParamIsBelow}
use Rattle.occ_derive.proofs.last.last_in_params.Given as goal

-- where those that are left are below a number, and the greatest so far is, all are
abbrev pub invariant-loop-param : goal.invariant-loop-param
invariant-loop-param l = (m : ℕ) → l.last ≤ m → AllByRecursion (ParamIsBelow m) (drop l.param-index l.params) → AllByRecursion (ParamIsBelow m) l.params
