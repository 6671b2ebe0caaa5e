use Rattle.std.proofs.Common.{◌≡◌, ◌++◌, map, length}
use Rattle.occ_run.specs.Effects.{in_body, seen_offers}
use Rattle.occ_run.proofs.within.of_variable.Given as goal

abbrev pub invariant-loop-rest : goal.invariant-loop-rest
invariant-loop-rest l = seen_offers l.offers.items ++ map (in_body l.name.0 l.value) (seen_offers l.rest) ≡ map (in_body l.name.0 l.value) (seen_offers l.inside)

abbrev pub decreases-loop-rest : goal.decreases-loop-rest
decreases-loop-rest l = length l.rest
