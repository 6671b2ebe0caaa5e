use Rattle.occ_norm_alt.proofs.rows.Rows.+map.Given as goal

abbrev pub decreases-map : goal.decreases-map
decreases-map l = l.left
