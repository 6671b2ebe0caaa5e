use Rattle.occ_engine_written.proofs.Staying.{moves_exchanged, text_exchanged}
use Rattle.occ_engine_written.proofs.numbered_moves.written_moves_stay.Goals as goal

pub returns : goal.returns
returns c = record {
  moves = λ a b names P from to steps p q w. moves_exchanged a b names p q P from to steps w;
  text = λ a b names from to steps p q. text_exchanged a b names p q from to steps;
}
