use Rattle.occ_refine.proofs.Both.{refined_both_ways}
use Rattle.occ_refine.proofs.law.refined_both_ways.Goals as goal

pub returns : goal.returns
returns c = refined_both_ways
