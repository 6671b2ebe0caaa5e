use Rattle.occ_meaning.proofs.Places.{put_scope, put_there}
use Rattle.occ_meaning.proofs.same.what_is_put_in_is_there.Goals as goal

pub returns : goal.returns
returns c = λ path Γ p q r e. (put_there path p q r e, put_scope path Γ p q r e)
