use Rattle.occ_run_schedule.proofs.One.{one_following}
use Rattle.occ_run_schedule.proofs.law.one_following.Goals as goal

pub returns : goal.returns
returns c = λ p q schedule f g params body one other. one_following p q schedule f g params body one other
