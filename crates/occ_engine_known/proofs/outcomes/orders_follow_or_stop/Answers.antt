use Rattle.occ_engine_known.proofs.Following.{follow_or_stop}
use Rattle.occ_engine_known.proofs.outcomes.orders_follow_or_stop.Goals as goal

pub returns : goal.returns
returns c = follow_or_stop
