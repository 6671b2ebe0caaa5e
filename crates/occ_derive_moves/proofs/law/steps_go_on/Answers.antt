use Rattle.occ_derive_moves.proofs.Steps.{go_on}
use Rattle.occ_derive_moves.proofs.law.steps_go_on.Goals as goal

pub returns : goal.returns
returns c = go_on
