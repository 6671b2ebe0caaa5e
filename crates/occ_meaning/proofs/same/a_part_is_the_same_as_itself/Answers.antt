use Rattle.occ_meaning.proofs.Alike.{same_itself}
use Rattle.occ_meaning.proofs.same.a_part_is_the_same_as_itself.Goals as goal

pub returns : goal.returns
returns c = same_itself
