use Rattle.std.proofs.Common.{take}
use Rattle.occ_derive_search.proofs.Stepping.{IsOnWay}
use Rattle.occ_engine.specs.occ_usage.Accepted.{KeepsRules}
use Rattle.occ_derive_search.proofs.following.follow.Given as goal

abbrev pub invariant-loop-step : goal.invariant-loop-step
invariant-loop-step l = record {
  keeps : KeepsRules l.walk.here;
  led : IsOnWay l.accepted.program (take l.step-index l.steps) l.walk.here;
}
