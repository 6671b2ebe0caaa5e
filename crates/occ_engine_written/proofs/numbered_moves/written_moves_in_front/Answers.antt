use Rattle.occ_engine_written.proofs.Front.{in_front}
use Rattle.occ_engine_written.proofs.numbered_moves.written_moves_in_front.Goals as goal

pub returns : goal.returns
returns c = in_front
