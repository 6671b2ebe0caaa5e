use Rattle.occ_complete.proofs.ExistsWhole.{derivations_exist}
use Rattle.occ_complete.proofs.existence.derivations_exist.Goals as goal

pub returns : goal.returns
returns c = derivations_exist c.laws_are_sound.ensures
