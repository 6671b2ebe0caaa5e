use Rattle.occ_law_right.proofs.Sides.{chan_seq_only}
use Rattle.occ_law_right.proofs.moves.chan_seq.Goals as goal

pub returns-in_ok-in_turn-in-Some : goal.returns-in_ok-in_turn-in-Some
returns-in_ok-in_turn-in-Some c = chan_seq_only _ _ _ _ _ _ _ _ _ _ c.in-Chan.ensures c.in-Seq.ensures c.in-Some.ensures c.in_ok-one-in-Some.ensures c.in_ok-over-in-Some.ensures c.in_ok-in_turn-in-Some.ensures
