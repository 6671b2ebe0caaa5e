use Rattle.occ_law_right.proofs.Sides.{chan_par_only}
use Rattle.occ_law_right.proofs.moves.chan_par.Goals as goal

pub returns-in-Chan : goal.returns-in-Chan
returns-in-Chan c = chan_par_only _ _ _ _ _ c.in-Chan.ensures c.into_first.ensures
