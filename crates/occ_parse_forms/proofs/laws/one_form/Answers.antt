use Rattle.occ_parse_forms.proofs.Forms.{only_form}
use Rattle.occ_parse_forms.proofs.laws.one_form.Goals as goal

pub returns : goal.returns
returns c = only_form
