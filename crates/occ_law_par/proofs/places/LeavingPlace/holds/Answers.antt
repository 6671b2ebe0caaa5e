use Rattle.occ_syntax.proofs.Rows.{refuted}
use Rattle.occ_law_par.proofs.Going.{goes_before_none, goes_test}
use Rattle.occ_law_par.proofs.places.LeavingPlace.holds.Goals as goal

pub returns-in-Some-behind : goal.returns-in-Some-behind
returns-in-Some-behind c = goes_test _ _ _ _ _ _ _ c.in-Some.ensures c.in-Some-behind.ensures c.same_procs.ensures

pub returns-in-None : goal.returns-in-None
returns-in-None c = refuted (goes_before_none _ _ _ _ _ c.in-Some.ensures c.in-None.ensures)
