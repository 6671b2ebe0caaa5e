use Rattle.occ_meaning.proofs.Typing.{eval_below}
use Rattle.occ_meaning.proofs.foundation.evaluation_stays_below.Goals as goal

pub returns : goal.returns
returns c = eval_below
