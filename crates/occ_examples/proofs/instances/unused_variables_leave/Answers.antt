use Rattle.occ_examples.proofs.instances.unused_variables_leave.Goals as goal
use Rattle.occ_law.specs.Scope.{var_unused}
use Rattle.occ_law.specs.occ_base.declared.width.Width.TheVariants.{Word}
use Rattle.occ_examples.proofs.NearMisses.{is_named}
use Rattle.occ_examples.specs.Programs.{set, word, x, z}
use Rattle.std.proofs.Common.{[], refl}

pub returns : goal.returns
returns given = (
  record { place = []; sides = var_unused z (Word 2) (set x (word 1)) refl; left = record { types = refl; usage = tt }; right = record { types = refl; usage = tt } },
  λ law. is_named law.place _ _ law.sides refl,
)
