use Rattle.occ_derive.proofs.settle.+settle.Given as goal

abbrev pub decreases-settle_all : goal.decreases-settle_all
decreases-settle_all l = l.fuel

abbrev pub decreases-settle_one : goal.decreases-settle_one
decreases-settle_one l = l.fuel
