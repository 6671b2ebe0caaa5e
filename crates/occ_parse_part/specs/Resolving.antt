-- A part in a scope: its faults, and the scope of its lines.
use Rattle.std.specs.Prelude.{List, map, Option}
use Rattle.occ_syntax.specs.occ_base.declared.names.Name.{Name}
use Rattle.occ_syntax.specs.declared.scope.Kind.{Kind}
use Rattle.occ_syntax.specs.Tree.{Tree}
use Rattle.occ_parse_forms.specs.declared.form.Param.{Param}
use Rattle.occ_parse_rules.specs.Forest.{Forest}
use Rattle.occ_parse_rules.specs.Judging.{or_else, first_fault}
use Rattle.occ_parse_rules.specs.Names.{name_fault}
use Rattle.occ_parse_rules.specs.Places.{Sorts}
use Rattle.occ_parse_rules.specs.Types.{type_fault, direction_fault}
use Rattle.occ_parse_rules.specs.Unrolled.{slot_process}
use Rattle.occ_parse_rules.specs.Programs.{param_scope}
use Rattle.occ_parse.specs.declared.fault.ParseFault.{ParseFault}
use Rattle.occ_parse.specs.declared.fault.ParseFault.TheVariants as fault
use Rattle.occ_parse.specs.Drafts.{as_fault, name_fault_on, type_fault_on}
use Rattle.occ_parse_part.specs.Elements.{Elements, numbers}
use Rattle.occ_parse_part.specs.Parts.{Part}

-- The first fault of lines in a scope: of names, of types, of directions.
abbrev pub fault_in : Sorts → Forest → Option ParseFault
fault_in Γ f =
    or_else (as_fault name_fault_on (first_fault name_fault Γ Γ f))
    (or_else (as_fault type_fault_on (first_fault type_fault Γ Γ f))
    (as_fault (λ line found. fault.Direction line) (first_fault direction_fault Γ Γ f)))

-- what is in scope, as declarations: a name of an element declares that element
abbrev pub scope_params : Elements → List (Name × Kind) → List Param
scope_params e scope = map (λ (entry : Name × Kind). record { declared = e.named entry.0.0; kind = entry.1 }) scope

abbrev pub scope_of : Part → List (Name × Kind) → Sorts
scope_of part scope = param_scope (scope_params part.elements scope)

-- the first fault of a part in a scope, and the process that it stands for
abbrev pub part_fault : Part → List (Name × Kind) → Option ParseFault
part_fault part scope = fault_in (scope_of part scope) part.lines

abbrev pub part_process : Part → List (Name × Kind) → Tree
part_process part scope = slot_process (numbers part.elements) (scope_of part scope) part.lines
