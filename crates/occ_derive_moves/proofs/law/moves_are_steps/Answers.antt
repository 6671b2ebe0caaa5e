use Rattle.occ_derive_moves.proofs.Steps.{moves_steps}
use Rattle.occ_derive_moves.proofs.law.moves_are_steps.Goals as goal

pub returns : goal.returns
returns c = moves_steps
