-- The two checks of the items that a line uses.
use Rattle.std.specs.Prelude.{◌≡◌, ◌≤◌, ◌-◌, Bool, length, drop}
use Rattle.occ_parse_forms.specs.declared.form.Item.{Item}
use Rattle.occ_parse_rules.specs.Places.{Sorts}
use Rattle.occ_parse_rules.specs.Names.{is_undeclared, is_outside}
use Rattle.occ_parse_scopes.specs.declared.uses.Check.{Check}
use Rattle.occ_parse_scopes.specs.declared.uses.Check.TheVariants as check

-- whether an item fails a check
abbrev pub fails : Check → Sorts → Item → Bool
fails check.Undeclared Γ i = is_undeclared Γ i
fails check.Outside Γ i = is_outside Γ i

-- a scope with further declarations in front
abbrev pub StandsOn : Sorts → Sorts → Type 0
StandsOn Δ Γ = (length Γ ≤ length Δ) × (drop (length Δ - length Γ) Δ ≡ Γ)
