use Rattle.occ_engine_known.proofs.Expanding.{one_expansion}
use Rattle.occ_engine_known.proofs.outcomes.expansions_have_one_outcome.Goals as goal

pub returns : goal.returns
returns c = one_expansion
