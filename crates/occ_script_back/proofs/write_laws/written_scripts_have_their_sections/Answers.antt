use Rattle.occ_script_back.proofs.Scripts.{script_cut}
use Rattle.occ_script_back.proofs.write_laws.written_scripts_have_their_sections.Goals as goal

pub returns : goal.returns
returns c = script_cut
