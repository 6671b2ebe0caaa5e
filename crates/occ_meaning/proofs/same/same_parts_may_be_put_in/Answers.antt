use Rattle.occ_meaning.proofs.Contexts.{put_same}
use Rattle.occ_meaning.proofs.same.same_parts_may_be_put_in.Goals as goal

pub returns : goal.returns
returns c = put_same
