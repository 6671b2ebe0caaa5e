use Rattle.occ_law_sound.proofs.ScopeSound.{scope_sound}
use Rattle.occ_law_sound.proofs.scope_sound.scope_laws_are_sound.Goals as goal

pub returns : goal.returns
returns c = scope_sound
