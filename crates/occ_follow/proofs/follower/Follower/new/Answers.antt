use Rattle.occ_follow.proofs.Continuing.{are_sequences_none}
use Rattle.occ_follow.proofs.follower.Follower.new.Goals as goal

pub returns : goal.returns
returns c = λ w. record { unions = c.new.ensures w; sequences = are_sequences_none w c.new-2.result c.new-2.ensures }
