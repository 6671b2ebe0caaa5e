use Rattle.occ_derive_laws.proofs.Reordering.{permuted}
use Rattle.occ_derive_laws.proofs.lists.permuted_branches_are_reordered.Goals as goal

pub returns : goal.returns
returns c = permuted
