use Rattle.std.proofs.Common.{◌≡◌, drop}
use Rattle.occ_syntax.specs.Scopes.{environment}
use Rattle.occ_syntax.proofs.eval.width_of.Given as goal

abbrev pub invariant-loop-other : goal.invariant-loop-other
invariant-loop-other l = environment l.scope l.name.0 ≡ environment (drop l.other-index l.scope) l.name.0
