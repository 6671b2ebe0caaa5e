use Rattle.occ_norm_frame.proofs.changes.Turning.+turned_by.Given as goal

abbrev pub decreases-turned_by : goal.decreases-turned_by
decreases-turned_by l = l.left
