use Rattle.std.proofs.Common.{take, map}
use Rattle.occ_engine.specs.Granted.{IsBrought}
use Rattle.occ_engine.specs.Wishes.{wish_of}
use Rattle.occ_law_any.specs.occ_usage.Accepted.{KeepsRules}
use Rattle.occ_engine.proofs.expansion.grant_all.Given as goal

abbrev pub invariant-loop-wish : goal.invariant-loop-wish
invariant-loop-wish l = record {
  keeps : KeepsRules l.to;
  brought : IsBrought l.fn.from (map wish_of (take l.wish-index l.wishes)) l.steps l.to;
}
