use Rattle.occ_norm_alt.proofs.choice.Outputs.+of_block.Given as goal

abbrev pub decreases-of_block : goal.decreases-of_block
decreases-of_block l = l.block.left
