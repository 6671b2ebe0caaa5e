use Rattle.occ_derive_moves.proofs.Keeping.{works_same}
use Rattle.occ_derive_moves.proofs.moving.rows_keep_the_meaning.Goals as goal

pub returns : goal.returns
returns c = works_same c.laws_are_sound.ensures
