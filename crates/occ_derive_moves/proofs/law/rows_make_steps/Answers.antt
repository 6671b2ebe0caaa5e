use Rattle.occ_derive_moves.proofs.Steps.{works_steps}
use Rattle.occ_derive_moves.proofs.law.rows_make_steps.Goals as goal

pub returns : goal.returns
returns c = works_steps
