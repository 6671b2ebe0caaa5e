use Rattle.occ_meaning.proofs.AtState.{chosen_true}
use Rattle.occ_meaning.proofs.at_states.true_choices_are_taken.Goals as goal
use Rattle.occ_syntax.specs.Meaning.{first_choice, meaning}

pub returns : goal.returns
returns c = λ Γ e p cs s h t o. ((chosen_true Γ s e (meaning p) (first_choice cs) h).forth t o, (chosen_true Γ s e (meaning p) (first_choice cs) h).back t o)
