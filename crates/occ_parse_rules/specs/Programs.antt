-- A program's lines: its parameters, and the lines below the header.
use Rattle.std.specs.Prelude.{◌≡◌, true, false, List, []}
use Rattle.std.specs.List.{list_all, flat_map}
use Rattle.occ_meaning.specs.occ_syntax.Scopes.{environment}
use Rattle.occ_meaning.specs.occ_syntax.Types.{types_kept, scope_kept}
use Rattle.occ_parse_forms.specs.declared.form.Param.{Param}
use Rattle.occ_parse_rules.specs.Forest.{Forest}
use Rattle.occ_parse_rules.specs.Names.{redeclares_some}
use Rattle.occ_parse_rules.specs.Places.{Sorts, places, declared_in, param_entries}
use Rattle.occ_parse_rules.specs.Unrolled.{Numbers, params_named, slot_process}
use Rattle.occ_parse_rules.specs.Sound.{are_placed, are_sound, has_width}
use Rattle.occ_parse_rules.specs.Agreement.{Known, AreIn, AreKnown}
use Rattle.occ_parse_rules.specs.InOrder.{AreInOrder}

-- the scope below a header with these parameters
abbrev pub param_scope : List Param → Sorts
param_scope params = declared_in [] (param_entries params)

-- The parameters are declared once and have widths, the lines below have the forms that reading gives, declarations stand in
-- front of processes alone, all names that are declared are in the table, and no line has a fault of names, types or directions.
pub record IsInOrderWith (D : Known) (params : List Param) (below : Forest) : Type 0 where
  pub once : redeclares_some [] (param_entries params) ≡ false
  pub widths : list_all (λ p. has_width p.kind) params ≡ true
  pub known : AreIn D (flat_map (λ p. places p.declared) params)
  pub sound : are_sound below ≡ true
  pub placed : are_placed below ≡ true
  pub declared : AreKnown D below
  pub lines : AreInOrder (param_scope params) (param_scope params) below

-- the program that the lines stand for keeps names, types and directions
pub record KeepsTypes (N : Numbers) (params : List Param) (below : Forest) : Type 0 where
  pub scope : scope_kept (params_named N params) ≡ true
  pub types : types_kept (slot_process N (param_scope params) below) (environment (params_named N params)) ≡ true
