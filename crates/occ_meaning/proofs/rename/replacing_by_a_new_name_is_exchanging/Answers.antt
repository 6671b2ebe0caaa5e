use Rattle.occ_meaning.proofs.Redeclared.{replaced_is_exchanged}
use Rattle.occ_meaning.proofs.rename.replacing_by_a_new_name_is_exchanging.Goals as goal

pub returns : goal.returns
returns c = replaced_is_exchanged
