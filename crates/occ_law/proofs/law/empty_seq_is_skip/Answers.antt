use Rattle.std.proofs.Common.{[], refl}
use Rattle.occ_law.specs.Sequence.{seq_none}
use Rattle.occ_law.proofs.law.empty_seq_is_skip.Goals as goal

pub returns : goal.returns
returns c = λ S. record { place = []; sides = seq_none; left = record { types = refl; usage = tt }; right = record { types = refl; usage = tt } }
