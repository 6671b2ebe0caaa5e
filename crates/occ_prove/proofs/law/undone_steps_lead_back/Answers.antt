use Rattle.occ_prove.proofs.Moving.{lead_back}
use Rattle.occ_prove.proofs.law.undone_steps_lead_back.Goals as goal

pub returns : goal.returns
returns c = lead_back
