use Rattle.occ_syntax.proofs.Together.{one_part}
use Rattle.occ_syntax.proofs.law.seq_of_one_is_that_part.Goals as goal

pub returns : goal.returns
returns c = one_part
