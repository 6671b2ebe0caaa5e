use Rattle.occ_script_back.proofs.Parts.{reads_back}
use Rattle.occ_script_back.proofs.part_laws.printed_parts_read_back.Goals as goal

pub returns : goal.returns
returns c = λ names P scope part front number h narrow. reads_back names P scope number part h front narrow
