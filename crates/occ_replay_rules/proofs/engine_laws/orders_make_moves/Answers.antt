use Rattle.occ_replay_rules.proofs.Moving.{follows_moves}
use Rattle.occ_replay_rules.proofs.engine_laws.orders_make_moves.Goals as goal

pub returns : goal.returns
returns c = λ S p q orders moves f. follows_moves S p q orders moves f
