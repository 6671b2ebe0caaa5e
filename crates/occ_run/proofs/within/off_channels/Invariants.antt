use Rattle.std.proofs.Common.{◌≡◌, ◌++◌, ◌∷◌, length}
use Rattle.occ_run.specs.Effects.{off_channels, seen_offers}
use Rattle.occ_run.proofs.within.off_channels.Given as goal

abbrev pub invariant-loop-rest : goal.invariant-loop-rest
invariant-loop-rest l = seen_offers l.offers.items ++ off_channels (l.first ∷ l.more) (seen_offers l.rest) ≡ off_channels (l.first ∷ l.more) (seen_offers l.inside)

abbrev pub decreases-loop-rest : goal.decreases-loop-rest
decreases-loop-rest l = length l.rest
