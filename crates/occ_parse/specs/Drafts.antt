-- What is wrong with lines that are well laid out, and the program that they stand for.
use Rattle.std.specs.Prelude.{ℕ, Bool, true, false, nat_lt, if◌then◌else◌, List, [], Option, Some, None, length}
use Rattle.std.specs.List.{flat_map}
use Rattle.occ_syntax.specs.occ_base.declared.names.Name.{Name}
use Rattle.occ_syntax.specs.Counts.{controls}
use Rattle.occ_parse_rules.specs.occ_parse_forms.declared.form.Param.{Param}
use Rattle.occ_parse_rules.specs.occ_parse_forms.Shape.{Shape, header}
use Rattle.occ_parse_rules.specs.declared.fault.NameFault.{NameFault}
use Rattle.occ_parse_rules.specs.declared.fault.NameFault.TheVariants as name
use Rattle.occ_parse_rules.specs.declared.fault.TypeFault.{TypeFault}
use Rattle.occ_parse_rules.specs.declared.fault.TypeFault.TheVariants as type
use Rattle.occ_parse_rules.specs.Forest.{Forest, no_line, and_line}
use Rattle.occ_parse_rules.specs.Places.{places}
use Rattle.occ_parse_rules.specs.Judging.{or_else, first_fault}
use Rattle.occ_parse_rules.specs.Names.{name_fault}
use Rattle.occ_parse_rules.specs.Types.{type_fault, direction_fault}
use Rattle.occ_parse_rules.specs.Limits.{count_fault, bits_fault, bits_in_scope, copied_lines}
use Rattle.occ_parse_rules.specs.Unrolled.{Numbers, slot_process}
use Rattle.occ_parse_rules.specs.Programs.{param_scope}
use Rattle.occ_parse.specs.declared.bound.Bound.{Bound}
use Rattle.occ_parse.specs.declared.fault.ParseFault.{ParseFault}
use Rattle.occ_parse.specs.declared.fault.ParseFault.TheVariants as fault
use Rattle.occ_parse.specs.declared.fault.Which.{Which}
use Rattle.occ_parse.specs.declared.fault.Which.TheVariants as which
use Rattle.occ_parse.specs.Limits.{is_limited}

-- ---- the parts of a program's lines: the header is the first of them

abbrev pub is_header : Shape → Bool
is_header (header name params) = true
is_header other = false

abbrev pub begins_with_header : Forest → Bool
begins_with_header no_line = false
begins_with_header (and_line n s below rest) = is_header s

abbrev pub header_line : Forest → ℕ
header_line no_line = 1
header_line (and_line n s below rest) = n

abbrev pub name_in : Shape → Name
name_in (header name params) = name
name_in other = record { 0 = 0 }

abbrev pub params_in : Shape → List Param
params_in (header name params) = params
params_in other = []

abbrev pub header_name : Forest → Name
header_name no_line = record { 0 = 0 }
header_name (and_line n s below rest) = name_in s

abbrev pub header_params : Forest → List Param
header_params no_line = []
header_params (and_line n s below rest) = params_in s

abbrev pub header_below : Forest → Forest
header_below no_line = no_line
header_below (and_line n s below rest) = below

-- ---- faults

abbrev pub name_fault_on : ℕ → NameFault → ParseFault
name_fault_on n name.Undeclared = fault.Undeclared n
name_fault_on n name.Redeclared = fault.Redeclared n
name_fault_on n name.Index = fault.Index n

abbrev pub type_fault_on : ℕ → TypeFault → ParseFault
type_fault_on n type.TypeClash = fault.TypeClash n
type_fault_on n type.NoType = fault.NoType n

-- the fault of a text that is found on a line, where one is found there
abbrev pub as_fault : {F : Type 0} → (ℕ → F → ParseFault) → Option (ℕ × F) → Option ParseFault
as_fault on None = None
as_fault on (Some found) = Some (on found.0 found.1)

abbrev pub over : Bool → Which → ℕ → Option ParseFault
over true w n = Some (fault.Limit w n)
over false w n = None

-- how the names are numbered doesn't matter for the size of a process
abbrev pub unnumbered : Numbers
unnumbered x k = 0

-- how many parameters there are: an array is as many as its elements
abbrev pub parameters : List Param → ℕ
parameters params = length (flat_map (λ p. places p.declared) params)

-- The first limit that a program with those parameters is over, whose header stands on that line above those lines, and
-- whose lines are those together: parameters, counts, controls, the bits of the parameters, and the bits in scope.
abbrev pub limit_fault_below : ℕ → List Param → Forest → Forest → Option ParseFault
limit_fault_below n params below f =
    or_else (over (nat_lt 16 (parameters params)) which.Parameters n)
    (or_else (as_fault (λ line found. fault.Limit which.Count line) (first_fault count_fault [] [] f))
    (or_else (over (nat_lt 4096 (controls (slot_process unnumbered (param_scope params) below))) which.Controls n)
    (or_else (over (nat_lt 16 (bits_in_scope (param_scope params))) which.InterfaceBits n)
    (as_fault (λ line found. fault.Limit which.ScopeBits line) (first_fault bits_fault (param_scope params) (param_scope params) (copied_lines below))))))

abbrev pub limit_fault : Forest → Option ParseFault
limit_fault f = limit_fault_below (header_line f) (header_params f) (header_below f) f

abbrev pub limit_fault_of : Bound → Forest → Option ParseFault
limit_fault_of b f = if is_limited b then limit_fault f else None

-- The first fault of lines that are well laid out: of names, of types, of directions, and then a limit.
abbrev pub draft_fault : Bound → Forest → Option ParseFault
draft_fault b f =
    or_else (as_fault name_fault_on (first_fault name_fault [] [] f))
    (or_else (as_fault type_fault_on (first_fault type_fault [] [] f))
    (or_else (as_fault (λ line found. fault.Direction line) (first_fault direction_fault [] [] f))
    (limit_fault_of b f)))
