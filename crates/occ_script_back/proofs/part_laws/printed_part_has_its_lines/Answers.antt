use Rattle.occ_script_back.proofs.Parts.{lines_there}
use Rattle.occ_script_back.proofs.part_laws.printed_part_has_its_lines.Goals as goal

pub returns : goal.returns
returns c = λ names P scope part front number h. lines_there names P scope number part h front
