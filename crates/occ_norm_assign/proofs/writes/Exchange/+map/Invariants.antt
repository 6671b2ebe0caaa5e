use Rattle.occ_norm_assign.proofs.writes.Exchange.+map.Given as goal

abbrev pub decreases-map : goal.decreases-map
decreases-map l = l.left
