use Rattle.occ_meaning.proofs.Alike.{same_back}
use Rattle.occ_meaning.proofs.same.same_both_ways.Goals as goal

pub returns : goal.returns
returns c = same_back
