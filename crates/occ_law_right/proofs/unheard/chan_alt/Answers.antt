use Rattle.occ_law_right.proofs.Sides.{chan_alt_only}
use Rattle.occ_law_right.proofs.unheard.chan_alt.Goals as goal

pub returns-in_ok-off_channel-in-Alt : goal.returns-in_ok-off_channel-in-Alt
returns-in_ok-off_channel-in-Alt c = chan_alt_only _ _ _ _ _ _ c.in-Chan.ensures c.in-Alt.ensures c.in_ok-off_channel-in-Alt.ensures
