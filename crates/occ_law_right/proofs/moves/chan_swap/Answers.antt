use Rattle.occ_law_right.proofs.Sides.{chan_swap_only}
use Rattle.occ_law_right.proofs.moves.chan_swap.Goals as goal

pub returns-in_ok-swapped-in-Chan-opened : goal.returns-in_ok-swapped-in-Chan-opened
returns-in_ok-swapped-in-Chan-opened c = chan_swap_only _ _ _ _ _ _ _ _ c.in-Chan.ensures c.in-Chan-opened.ensures c.in_ok-swapped-in-Chan-opened.ensures
