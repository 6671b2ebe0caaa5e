use Rattle.occ_derive_moves.proofs.Keeping.{works_keep}
use Rattle.occ_derive_moves.proofs.moving.rows_keep_the_rules.Goals as goal

pub returns : goal.returns
returns c = works_keep
