use Rattle.occ_print.proofs.Naming.{part_known}
use Rattle.occ_print.proofs.program.print_part.Goals as goal

pub push_part-requires : goal.push_part-requires
push_part-requires c = part_known _ _ _ c.requires
