use Rattle.occ_derive_moves.proofs.Steps.{steps_moves}
use Rattle.occ_derive_moves.proofs.law.narrow_steps_are_moves.Goals as goal

pub returns : goal.returns
returns c = steps_moves
