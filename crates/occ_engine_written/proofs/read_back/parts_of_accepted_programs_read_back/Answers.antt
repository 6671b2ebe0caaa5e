use Rattle.occ_engine_written.proofs.Parts.{part_reads_back}
use Rattle.occ_engine_written.proofs.read_back.parts_of_accepted_programs_read_back.Goals as goal

pub returns : goal.returns
returns c = part_reads_back c.printed_parts_read_back.ensures
