use Rattle.occ_replay_rules.proofs.Answering.{one_answer}
use Rattle.occ_replay_rules.proofs.replay_laws.scripts_have_one_answer.Goals as goal

pub returns : goal.returns
returns c = one_answer
