use Rattle.occ_engine_written.proofs.Known.{names_known}
use Rattle.occ_engine_written.proofs.written.read_programs_declare_known_names.Goals as goal

pub returns : goal.returns
returns c = names_known
