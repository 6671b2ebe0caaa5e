use Rattle.occ_print_back.proofs.Read.{read_within}
use Rattle.occ_print_back.proofs.print_levels.read_programs_print_within_levels.Goals as goal

pub returns : goal.returns
returns c = read_within
