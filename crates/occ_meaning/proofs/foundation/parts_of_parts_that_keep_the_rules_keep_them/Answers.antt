use Rattle.occ_meaning.proofs.Places.{part_keeps}
use Rattle.occ_meaning.proofs.foundation.parts_of_parts_that_keep_the_rules_keep_them.Goals as goal

pub returns : goal.returns
returns c = part_keeps
