use Rattle.occ_law_right.proofs.Sides.{chan_unused_only}
use Rattle.occ_law_right.proofs.moves.chan_unused.Goals as goal

pub returns-in-Chan : goal.returns-in-Chan
returns-in-Chan c = chan_unused_only _ _ _ _ _ c.in-Chan.ensures c.bare.ensures
