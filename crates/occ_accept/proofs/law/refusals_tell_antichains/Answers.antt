use Rattle.occ_accept.proofs.Chains.{told}
use Rattle.occ_accept.proofs.law.refusals_tell_antichains.Goals as goal

pub returns : goal.returns
returns c = told
