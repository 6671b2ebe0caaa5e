use Rattle.occ_derive_open.proofs.table.+cases_or_else.Given as goal

abbrev pub decreases-cases_or_else : goal.decreases-cases_or_else
decreases-cases_or_else l = l.depth
