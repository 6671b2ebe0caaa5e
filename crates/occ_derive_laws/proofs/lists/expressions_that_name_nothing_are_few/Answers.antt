use Rattle.occ_derive_laws.proofs.Rows.{unnamed_few}
use Rattle.occ_derive_laws.proofs.lists.expressions_that_name_nothing_are_few.Goals as goal

pub returns : goal.returns
returns c = unnamed_few
