use Rattle.occ_meaning.proofs.OffNames.{agree_turned, part_moves}
use Rattle.occ_meaning.proofs.scope.other_names_in_scope_do_not_matter.Goals as goal

pub returns : goal.returns
returns c = λ Θ p h x k Γ Δ off s t o. ((part_moves p Θ h x k Γ Δ off).moved s t o, (part_moves p Θ h x k Δ Γ (agree_turned x Γ Δ off)).moved s t o)
