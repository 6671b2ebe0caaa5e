use Rattle.occ_replay_rules.proofs.Moving.{moved_same}
use Rattle.occ_replay_rules.proofs.engine_laws.moves_keep_the_meaning.Goals as goal

pub returns : goal.returns
returns c = λ S p q moves h k m. moved_same c.laws_are_sound.ensures S p q moves h k.types m
