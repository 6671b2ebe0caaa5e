use Rattle.occ_engine_written.proofs.Paths.{path_short}
use Rattle.occ_engine_written.proofs.written.paths_of_texts_are_short.Goals as goal

pub returns : goal.returns
returns c = path_short
