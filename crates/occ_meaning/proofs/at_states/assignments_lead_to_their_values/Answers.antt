use Rattle.occ_meaning.proofs.AtState.{assigned_then}
use Rattle.occ_meaning.proofs.at_states.assignments_lead_to_their_values.Goals as goal

pub returns : goal.returns
returns c = λ Γ xs es p s t o. ((assigned_then Γ s xs es p).forth t o, (assigned_then Γ s xs es p).back t o)
