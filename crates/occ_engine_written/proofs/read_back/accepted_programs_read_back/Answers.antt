use Rattle.occ_engine_written.proofs.Programs.{reads_back}
use Rattle.occ_engine_written.proofs.read_back.accepted_programs_read_back.Goals as goal

pub returns : goal.returns
returns c = λ b d names all program front is left e blank short. reads_back b names all program is e left d front blank short
