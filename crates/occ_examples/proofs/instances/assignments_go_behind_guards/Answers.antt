use Rattle.occ_examples.proofs.instances.assignments_go_behind_guards.Goals as goal
use Rattle.occ_law.proofs.Instances.{kept_names}
use Rattle.occ_law.specs.Sequence.{assign_alt}
use Rattle.occ_law.specs.occ_syntax.Tree.{and_branch, input, no_branch, skip, truth}
use Rattle.occ_examples.specs.Programs.{c, word, x, y}
use Rattle.std.proofs.Common.{[], ◌∷◌, ◌≡◌, refl, true}

differ : x ≡ y → ⊥
differ h = cc

pub returns : goal.returns
returns given = (
  record {
    place = [];
    sides = assign_alt (y ∷ []) (word 1 ∷ []) (and_branch (truth true) (input c x) skip no_branch) refl;
    left = record { types = refl; usage = (tt, ((tt, tt), tt)) };
    right = record { types = refl; usage = ((tt, (tt, tt)), tt) };
  },
  λ law. kept_names c x y law.place _ _ differ law.sides refl,
)
