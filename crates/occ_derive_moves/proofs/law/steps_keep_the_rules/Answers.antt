use Rattle.occ_derive_moves.proofs.Steps.{steps_keep}
use Rattle.occ_derive_moves.proofs.law.steps_keep_the_rules.Goals as goal

pub returns : goal.returns
returns c = steps_keep
