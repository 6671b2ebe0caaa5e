use Rattle.occ_meaning.proofs.Free.{no_end, not_written}
use Rattle.occ_meaning.proofs.scope.what_is_not_free_is_not_used.Goals as goal

pub returns : goal.returns
returns c = λ p x h. (not_written p x h, λ d. no_end p x d h)
