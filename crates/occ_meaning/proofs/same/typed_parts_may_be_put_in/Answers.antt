use Rattle.occ_meaning.proofs.Places.{put_types}
use Rattle.occ_meaning.proofs.same.typed_parts_may_be_put_in.Goals as goal

pub returns : goal.returns
returns c = put_types
