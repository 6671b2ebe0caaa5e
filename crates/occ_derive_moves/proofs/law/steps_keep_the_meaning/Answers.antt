use Rattle.occ_derive_moves.proofs.Steps.{steps_same}
use Rattle.occ_derive_moves.proofs.law.steps_keep_the_meaning.Goals as goal

pub returns : goal.returns
returns c = steps_same c.laws_are_sound.ensures
