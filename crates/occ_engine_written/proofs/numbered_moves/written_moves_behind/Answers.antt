use Rattle.occ_engine_written.proofs.Behind.{behind}
use Rattle.occ_engine_written.proofs.numbered_moves.written_moves_behind.Goals as goal

pub returns : goal.returns
returns c = λ names P Q from to steps front w table. behind c.moves_are_written_well.ensures names P from to steps front Q w table
