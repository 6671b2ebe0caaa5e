use Rattle.occ_meaning.proofs.Named.{eval_by_names}
use Rattle.occ_meaning.proofs.foundation.expressions_depend_on_their_names_alone.Goals as goal

pub returns : goal.returns
returns c = eval_by_names
