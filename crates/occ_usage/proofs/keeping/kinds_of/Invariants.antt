use Rattle.std.proofs.Common.{◌≡◌, ◌++◌, drop}
use Rattle.occ_syntax.specs.Scopes.{environment}
use Rattle.occ_usage.proofs.keeping.kinds_of.Given as goal

abbrev pub invariant-loop-name : goal.invariant-loop-name
invariant-loop-name l = environment (l.kinds ++ drop l.name-index l.scope) ≡ environment l.scope
