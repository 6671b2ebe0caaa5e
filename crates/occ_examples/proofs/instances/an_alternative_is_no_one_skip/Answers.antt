use Rattle.occ_examples.proofs.instances.an_alternative_is_no_one_skip.Goals as goal
use Rattle.occ_law.specs.Choice.{alt_skip}
use Rattle.occ_examples.proofs.NearMisses.{two_branches}
use Rattle.occ_examples.specs.Programs.{set, word, x}
use Rattle.std.proofs.Common.{[], refl}

pub returns : goal.returns
returns given = (
  record { place = []; sides = alt_skip (set x (word 1)); left = record { types = refl; usage = (tt, tt) }; right = record { types = refl; usage = tt } },
  λ law. two_branches law.place _ _ law.sides refl,
)
