use Rattle.occ_read_renamed.proofs.Whole.{have_names}
use Rattle.occ_read_renamed.proofs.law.parameters_have_names.Goals as goal

pub returns : goal.returns
returns c = have_names
