use Rattle.occ_complete.proofs.Unifying.{alternatives_unify}
use Rattle.occ_complete.proofs.unified.settled_alternatives_unify.Goals as goal

pub returns : goal.returns
returns c = alternatives_unify
