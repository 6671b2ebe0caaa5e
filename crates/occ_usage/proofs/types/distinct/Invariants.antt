use Rattle.std.proofs.Common.{◌≡◌, [], drop}
use Rattle.occ_syntax.specs.View.{numbers}
use Rattle.occ_usage.proofs.Scoped.{fresh}
use Rattle.occ_usage.proofs.types.distinct.Given as goal

abbrev pub invariant-loop-name : goal.invariant-loop-name
invariant-loop-name l = fresh l.seen (numbers (drop l.name-index l.names)) ≡ fresh [] (numbers l.names)
