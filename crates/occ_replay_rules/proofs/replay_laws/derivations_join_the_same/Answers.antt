use Rattle.occ_replay_rules.proofs.Answering.{derivation_same}
use Rattle.occ_replay_rules.proofs.replay_laws.derivations_join_the_same.Goals as goal

pub returns : goal.returns
returns c = derivation_same c.laws_are_sound.ensures
