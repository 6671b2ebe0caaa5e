use Rattle.occ_print_back.proofs.Programs.{program_good}
use Rattle.occ_print_back.proofs.laws.printed_lines_are_well_laid_out.Goals as goal

pub returns : goal.returns
returns c = program_good
