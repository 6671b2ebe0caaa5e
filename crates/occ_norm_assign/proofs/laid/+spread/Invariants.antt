use Rattle.occ_norm_assign.proofs.laid.+spread.Given as goal

abbrev pub decreases-spread : goal.decreases-spread
decreases-spread l = l.left
