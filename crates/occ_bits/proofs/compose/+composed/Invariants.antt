use Rattle.occ_bits.proofs.compose.+composed.Given as goal

abbrev pub decreases-composed : goal.decreases-composed
decreases-composed l = l.left
