-- Headers of normal programs.
use Rattle.std.specs.Prelude.{ℕ, ◌≡◌, true, Some}
use Rattle.std.specs.List.{AllByRecursion}
use Rattle.occ_derive_laws.specs.occ_base.declared.event.Dir.TheVariants.{Input}
use Rattle.occ_derive_laws.specs.occ_base.declared.names.Name.{Name}
use Rattle.occ_derive_laws.specs.occ_base.declared.width.Width.{Width}
use Rattle.occ_derive_laws.specs.occ_derive_moves.Unified.{is_target}
use Rattle.occ_complete_states.specs.States.{scope_of}
use Rattle.occ_derive_laws.specs.occ_nform_table.Tables.{is_marked}
use Rattle.occ_derive_laws.specs.occ_syntax.declared.scope.Kind.{Kind}
use Rattle.occ_derive_laws.specs.occ_syntax.declared.scope.Kind.TheVariants.{Chan}
use Rattle.occ_derive_laws.specs.occ_syntax.Scopes.{environment, variable_width}
use Rattle.occ_derive_laws.specs.occ_syntax.Types.{scope_kept}
use Rattle.occ_derive_laws.specs.occ_target.Rows.{variable_of}
use Rattle.occ_derive_laws.specs.occ_target_laws.Bodies.{AreDeclared}
use Rattle.occ_derive_laws.specs.occ_target_laws.Shapes.{Header}

-- The variables for inputs are none of the parameters, each channel of these is marked, and there is a variable for the width of each
-- channel that is input from.
pub record IsHeader (h : Header) : Type 0 where
  pub kept : scope_kept (scope_of h) ≡ true
  pub marked : AllByRecursion (λ (p : Name × Kind). is_marked p.1 ≡ true) h.params
  pub declared : AreDeclared h
  pub takes : (c : ℕ) (w : Width) → environment h.params c ≡ Some (Chan w (Some Input))
      → (is_target h (variable_of h.inputs w) ≡ true) × (variable_width (environment (scope_of h)) (variable_of h.inputs w) ≡ Some w)
