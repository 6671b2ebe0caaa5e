use Rattle.occ_engine_known.proofs.Keeping.{kept_known}
use Rattle.occ_engine_known.proofs.known_names.kept_parts_have_known_names.Goals as goal

pub returns : goal.returns
returns c = λ n S p h t names. kept_known n S p h t names
