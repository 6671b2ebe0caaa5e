use Rattle.occ_norm_alt.proofs.choice.+input_from.Given as goal

abbrev pub decreases-input_from : goal.decreases-input_from
decreases-input_from l = l.block.left
