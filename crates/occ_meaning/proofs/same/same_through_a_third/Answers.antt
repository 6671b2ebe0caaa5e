use Rattle.occ_meaning.proofs.Alike.{same_through}
use Rattle.occ_meaning.proofs.same.same_through_a_third.Goals as goal

pub returns : goal.returns
returns c = same_through
