use Rattle.occ_law_sound.proofs.seq_sound.io_alt_is_sound.Goals as goal
use Rattle.occ_law_sound.proofs.EqualPlaces.{io_sound}

pub returns : goal.returns
returns c = io_sound
