use Rattle.occ_engine_written.proofs.Steps.{step_reads_back}
use Rattle.occ_engine_written.proofs.read_back.parts_of_scripts_read_back.Goals as goal

pub returns : goal.returns
returns c = step_reads_back c.printed_parts_read_back.ensures
