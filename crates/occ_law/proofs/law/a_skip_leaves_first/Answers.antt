use Rattle.std.proofs.Common.{[], ◌∷◌, refl}
use Rattle.occ_bits.specs.occ_syntax.Tree.{skip, stop, no_tree, and_tree}
use Rattle.occ_law.specs.Sequence.{seq_skip}
use Rattle.occ_law.proofs.Instances.{none_before, two_are_not_three}
use Rattle.occ_law.proofs.law.a_skip_leaves_first.Goals as goal

pub returns : goal.returns
returns c = λ S. record {
  place = 0 ∷ [];
  change = record {
    sides = seq_skip no_tree (and_tree stop (and_tree skip no_tree));
    differ = two_are_not_three;
    left = record { types = refl; usage = (tt, (tt, (tt, tt))) };
    right = record { types = refl; usage = (tt, (tt, tt)) };
  };
  least = λ other q change. none_before other _ q change.sides;
}
