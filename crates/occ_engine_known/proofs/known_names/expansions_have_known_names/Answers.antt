use Rattle.occ_engine_known.proofs.Moving.{expansions_known}
use Rattle.occ_engine_known.proofs.known_names.expansions_have_known_names.Goals as goal

pub returns : goal.returns
returns c = λ n S p q path moves h k names e. expansions_known n S p q path moves h k names e
