use Rattle.occ_derive_laws.proofs.Rows.{branches_append}
use Rattle.occ_derive_laws.proofs.lists.branches_stand_one_behind_the_other.Goals as goal

pub returns : goal.returns
returns c = branches_append
