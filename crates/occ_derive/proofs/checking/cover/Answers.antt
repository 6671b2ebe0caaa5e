use Rattle.std.proofs.Common.{arith}
use Rattle.occ_derive.proofs.checking.cover.Goals as goal

pub returns-in-Ok-clause-within : goal.returns-in-Ok-clause-within
returns-in-Ok-clause-within c = let low = c.in-Ok.ensures.greater in let high = c.in-Ok.ensures.within in omega (arith, low, high)
