use Rattle.occ_norm_assign.proofs.writes.+substituted.Given as goal

abbrev pub decreases-substituted : goal.decreases-substituted
decreases-substituted l = l.left
