use Rattle.occ_law_sound.proofs.scope_sound.chan_seq_is_sound.Goals as goal
use Rattle.occ_law_sound.proofs.Declared.{chan_seq_sound}

pub returns : goal.returns
returns c = chan_seq_sound
