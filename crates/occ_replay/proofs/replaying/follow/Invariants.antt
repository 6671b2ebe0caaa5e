use Rattle.std.proofs.Common.{◌≡◌, take, map}
use Rattle.occ_replay.specs.Scripts.{IsDerived, step_of}
use Rattle.occ_law_any.specs.occ_usage.Accepted.{KeepsRules}
use Rattle.occ_replay.proofs.replaying.follow.Given as goal

abbrev pub invariant-loop-step : goal.invariant-loop-step
invariant-loop-step l = record {
  counted : l.number ≡ l.step-index;
  keeps : KeepsRules l.program;
  derived : IsDerived l.fn.from (map step_of (take l.step-index l.steps)) l.program;
}
