use Rattle.occ_print_back.proofs.Programs.{program_formed}
use Rattle.occ_print_back.proofs.laws.printed_lines_have_their_forms.Goals as goal

pub returns : goal.returns
returns c = program_formed
