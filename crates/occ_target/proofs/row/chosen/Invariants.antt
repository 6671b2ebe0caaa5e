use Rattle.std.proofs.Common.{◌≡◌, ◌++◌, drop}
use Rattle.occ_target.specs.Rows.{chosen}
use Rattle.occ_target.proofs.row.chosen.Given as goal

-- what is found, and what is left to find, are all
abbrev pub invariant-loop-offer : goal.invariant-loop-offer
invariant-loop-offer l = l.found ++ chosen (drop l.place l.set) (drop l.offer-index l.offers) ≡ chosen l.set l.offers
