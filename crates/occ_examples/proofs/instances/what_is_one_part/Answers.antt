use Rattle.occ_examples.proofs.instances.what_is_one_part.Goals as goal
use Rattle.occ_law.specs.Sequence.{seq_one}
use Rattle.occ_law.specs.occ_syntax.Tree.{no_tree, seq, skip}
use Rattle.occ_examples.proofs.NearMisses.{no_one_part}
use Rattle.occ_examples.specs.Programs.{set, word, x}
use Rattle.std.proofs.Common.{[], refl}

pub returns : goal.returns
returns given = (
  record { place = []; sides = seq_one (set x (word 1)); left = record { types = refl; usage = (tt, tt) }; right = record { types = refl; usage = tt } },
  λ law. no_one_part law.place (seq no_tree) skip law.sides refl,
)
