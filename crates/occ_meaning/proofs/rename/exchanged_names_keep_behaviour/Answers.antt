use Rattle.occ_meaning.proofs.Exchanged.{exchanged}
use Rattle.occ_meaning.proofs.rename.exchanged_names_keep_behaviour.Goals as goal

pub returns : goal.returns
returns c = exchanged
