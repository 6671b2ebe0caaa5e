use Rattle.occ_engine_known.proofs.Following.{one_outcome}
use Rattle.occ_engine_known.proofs.outcomes.followed_orders_have_one_outcome.Goals as goal

pub returns : goal.returns
returns c = one_outcome
