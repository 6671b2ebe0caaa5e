use Rattle.occ_complete.proofs.ExistsWhole.{same_programs_meet}
use Rattle.occ_complete.proofs.existence.laws_are_complete.Goals as goal

pub returns : goal.returns
returns c = same_programs_meet c.laws_are_sound.ensures
