use Rattle.occ_print_back.proofs.Programs.{program_read}
use Rattle.occ_print_back.proofs.laws.printed_text_has_its_lines.Goals as goal

pub returns : goal.returns
returns c = program_read
