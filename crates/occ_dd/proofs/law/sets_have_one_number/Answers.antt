use Rattle.occ_dd.proofs.Sets.{canonical_sets}
use Rattle.occ_dd.proofs.law.sets_have_one_number.Goals as goal

pub returns : goal.returns
returns c = canonical_sets
