use Rattle.std.proofs.Common.{refl, arith}
use Rattle.occ_core_tests.proofs.Below.{part_greater}
use Rattle.occ_core_tests.proofs.tests.print.part_printed.Goals as goal

pub print_part-requires : goal.print_part-requires
print_part-requires c = part_greater _ _ (omega (arith, c.in_ok-last.ensures)) _ (c.if-part_below.ensures refl)
