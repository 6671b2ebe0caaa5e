use Rattle.occ_nform_rows.proofs.lister.Lister.+add_members.Given as goal

abbrev pub decreases-add_members : goal.decreases-add_members
decreases-add_members l = l.cube.free
