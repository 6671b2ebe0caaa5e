use Rattle.occ_print_back.proofs.Backs.{reads_back}
use Rattle.occ_print_back.proofs.whole.printed_programs_read_back.Goals as goal

pub returns : goal.returns
returns c = reads_back
