use Rattle.occ_derive_moves.proofs.Lifting.{go_on}
use Rattle.occ_derive_moves.proofs.moving.rows_go_on.Goals as goal

pub returns-clause-good : goal.returns-clause-good
returns-clause-good c = λ S. go_on

pub returns-clause-sparing : goal.returns-clause-sparing
returns-clause-sparing c = λ S. go_on
