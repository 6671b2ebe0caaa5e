use Rattle.occ_meaning.proofs.Exchanged.{replaced_types}
use Rattle.occ_meaning.proofs.rename.replaced_names_keep_types.Goals as goal

pub returns : goal.returns
returns c = replaced_types
