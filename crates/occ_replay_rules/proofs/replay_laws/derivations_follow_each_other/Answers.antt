use Rattle.occ_replay_rules.proofs.Deriving.{follow}
use Rattle.occ_replay_rules.proofs.replay_laws.derivations_follow_each_other.Goals as goal

pub returns : goal.returns
returns c = follow
