use Rattle.occ_engine_known.proofs.Keeping.{names_still}
use Rattle.occ_engine_known.proofs.known_names.names_stay_below.Goals as goal

pub returns : goal.returns
returns c = λ m n S p l h. names_still m n l S p h
