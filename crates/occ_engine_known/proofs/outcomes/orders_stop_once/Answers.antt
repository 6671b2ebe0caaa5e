use Rattle.occ_engine_known.proofs.Following.{one_stop}
use Rattle.occ_engine_known.proofs.outcomes.orders_stop_once.Goals as goal

pub returns : goal.returns
returns c = one_stop
