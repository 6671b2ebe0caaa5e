use Rattle.occ_meaning.proofs.Exchanged.{replaced}
use Rattle.occ_meaning.proofs.rename.replaced_names_keep_behaviour.Goals as goal

pub returns : goal.returns
returns c = replaced
