use Rattle.occ_engine_written.proofs.Known.{program_typed}
use Rattle.occ_engine_written.proofs.written.read_programs_are_typed.Goals as goal

pub returns : goal.returns
returns c = program_typed
