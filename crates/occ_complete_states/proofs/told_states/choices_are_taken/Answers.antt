use Rattle.occ_complete_states.proofs.Taking.{choice_is_taken}
use Rattle.occ_complete_states.proofs.told_states.choices_are_taken.Goals as goal

pub returns : goal.returns
returns c = choice_is_taken
