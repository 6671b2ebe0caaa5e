use Rattle.occ_script_back.proofs.Written.{written_well}
use Rattle.occ_script_back.proofs.joined_laws.moves_are_written_well.Goals as goal

pub returns : goal.returns
returns c = written_well
