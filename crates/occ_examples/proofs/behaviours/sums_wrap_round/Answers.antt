use Rattle.occ_examples.proofs.behaviours.sums_wrap_round.Goals as goal
use Rattle.std.proofs.Common.{refl}

pub returns : goal.returns
returns given = refl
