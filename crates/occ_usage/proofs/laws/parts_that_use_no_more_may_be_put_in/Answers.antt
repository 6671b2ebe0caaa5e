use Rattle.occ_usage.proofs.Putting.{put_keeps}
use Rattle.occ_usage.proofs.laws.parts_that_use_no_more_may_be_put_in.Goals as goal

pub returns : goal.returns
returns c = put_keeps
