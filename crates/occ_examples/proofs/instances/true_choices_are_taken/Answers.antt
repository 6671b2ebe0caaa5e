use Rattle.occ_examples.proofs.instances.true_choices_are_taken.Goals as goal
use Rattle.occ_law.specs.Choice.{if_true}
use Rattle.occ_law.specs.States.{AreFew}
use Rattle.occ_law.specs.occ_syntax.Tree.{no_case, truth}
use Rattle.occ_examples.proofs.NearMisses.{not_always}
use Rattle.occ_examples.specs.Programs.{scope, set, word, y}
use Rattle.std.proofs.Common.{arith, [], ◌∷◌, refl, true}

few : AreFew scope (truth true ∷ [])
few = omega arith

pub returns : goal.returns
returns given = (
  record {
    place = [];
    sides = if_true (truth true) (set y (word 1)) no_case few (λ s h. refl);
    left = record { types = refl; usage = (tt, tt) };
    right = record { types = refl; usage = tt };
  },
  λ law. not_always law.place _ _ law.sides refl,
)
