use Rattle.occ_compare.proofs.One.{refinement_one}
use Rattle.occ_compare.proofs.law.one_refinement.Goals as goal

pub returns : goal.returns
returns c = refinement_one
