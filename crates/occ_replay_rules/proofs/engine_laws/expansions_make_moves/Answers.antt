use Rattle.occ_replay_rules.specs.Expansion.{expanding}
use Rattle.occ_replay_rules.proofs.Moving.{grants_moves}
use Rattle.occ_replay_rules.proofs.engine_laws.expansions_make_moves.Goals as goal

pub returns : goal.returns
returns c = λ S p q path moves e. grants_moves S p q (expanding path e.first e.second) moves e.granted
