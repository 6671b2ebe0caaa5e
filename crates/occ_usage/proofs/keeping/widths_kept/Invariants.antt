use Rattle.std.proofs.Common.{◌≡◌, drop}
use Rattle.occ_usage.specs.Typed.{widths_kept}
use Rattle.occ_usage.proofs.keeping.widths_kept.Given as goal

abbrev pub invariant-loop-kind : goal.invariant-loop-kind
invariant-loop-kind l = widths_kept (drop l.kind-index l.scope) ≡ widths_kept l.scope
