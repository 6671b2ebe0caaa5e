use Rattle.occ_parse_scopes.proofs.Taken.{found, taken}
use Rattle.occ_parse_scopes.proofs.law.some_values_are_values_that_the_indices_take.Goals as goal

pub returns : goal.returns
returns c = λ Γ test. (λ h. found Γ test h, λ w. taken Γ test w.0 w.1 w.2)
