use Rattle.occ_refine_laws.proofs.Outside.{part_wider}
use Rattle.occ_refine_laws.proofs.law.outside_is_refused.Goals as goal

pub returns : goal.returns
returns c = λ p Γ h s t X W state wider d. (part_wider p Γ h).wider s t X W state wider d
