use Rattle.occ_base.proofs.Naming.{naming}
use Rattle.occ_base.proofs.names.one_text_one_name.Goals as goal

pub returns : goal.returns
returns c = naming
