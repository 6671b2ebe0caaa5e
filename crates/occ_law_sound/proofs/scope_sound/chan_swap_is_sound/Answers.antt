use Rattle.occ_law_sound.proofs.scope_sound.chan_swap_is_sound.Goals as goal
use Rattle.occ_law_sound.proofs.Declared.{chan_swap_sound}

pub returns : goal.returns
returns c = chan_swap_sound
