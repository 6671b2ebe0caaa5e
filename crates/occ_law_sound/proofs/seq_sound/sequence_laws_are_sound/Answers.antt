use Rattle.occ_law_sound.proofs.SeqSound.{sequence_sound}
use Rattle.occ_law_sound.proofs.seq_sound.sequence_laws_are_sound.Goals as goal

pub returns : goal.returns
returns c = sequence_sound
