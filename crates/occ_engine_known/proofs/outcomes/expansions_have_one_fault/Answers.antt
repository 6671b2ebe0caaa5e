use Rattle.occ_engine_known.proofs.Expanding.{one_fault}
use Rattle.occ_engine_known.proofs.outcomes.expansions_have_one_fault.Goals as goal

pub returns : goal.returns
returns c = one_fault
