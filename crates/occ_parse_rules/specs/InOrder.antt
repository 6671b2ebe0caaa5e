-- Lines without a fault of names, types or directions.
use Rattle.std.specs.Prelude.{◌≡◌, None}
use Rattle.occ_parse_forms.specs.Shape.{Shape}
use Rattle.occ_parse_rules.specs.Forest.{Forest}
use Rattle.occ_parse_rules.specs.Places.{Sorts}
use Rattle.occ_parse_rules.specs.Judging.{first_fault}
use Rattle.occ_parse_rules.specs.Names.{name_fault}
use Rattle.occ_parse_rules.specs.Types.{type_fault, direction_fault}

-- a line in its scope
pub record IsInOrder (Γ : Sorts) (s : Shape) : Type 0 where
  pub names : name_fault Γ s ≡ None
  pub types : type_fault Γ s ≡ None
  pub directions : direction_fault Γ s ≡ None

-- lines, where the outer scope is that of the next slot
pub record AreInOrder (outer Γ : Sorts) (f : Forest) : Type 0 where
  pub names : first_fault name_fault outer Γ f ≡ None
  pub types : first_fault type_fault outer Γ f ≡ None
  pub directions : first_fault direction_fault outer Γ f ≡ None
