use Rattle.occ_engine_written.proofs.Renamed.{tree_under}
use Rattle.occ_engine_written.proofs.numbered_moves.processes_are_renamed.Goals as goal

pub returns : goal.returns
returns c = tree_under
