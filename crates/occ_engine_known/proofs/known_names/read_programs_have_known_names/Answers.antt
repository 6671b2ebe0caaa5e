use Rattle.occ_engine_known.proofs.Given.{name_low}
use Rattle.occ_engine_known.proofs.known_names.read_programs_have_known_names.Goals as goal

pub returns : goal.returns
returns c = name_low
