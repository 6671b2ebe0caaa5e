use Rattle.occ_renamed.proofs.Forms.{form_so}
use Rattle.occ_renamed.proofs.parse_laws.forms_are_renamed.Goals as goal

pub returns : goal.returns
returns c = λ f back symbols s one other e h. form_so f back one other symbols s e h
