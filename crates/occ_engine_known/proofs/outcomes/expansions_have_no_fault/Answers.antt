use Rattle.occ_engine_known.proofs.Expanding.{no_fault}
use Rattle.occ_engine_known.proofs.outcomes.expansions_have_no_fault.Goals as goal

pub returns : goal.returns
returns c = no_fault
