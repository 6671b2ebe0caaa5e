use Rattle.occ_compare.proofs.One.{deadlock_one}
use Rattle.occ_compare.proofs.law.one_deadlock.Goals as goal

pub returns : goal.returns
returns c = deadlock_one
