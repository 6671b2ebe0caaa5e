use Rattle.occ_derive_moves.proofs.Steps.{one_end}
use Rattle.occ_derive_moves.proofs.law.steps_lead_to_one_process.Goals as goal

pub returns : goal.returns
returns c = one_end
