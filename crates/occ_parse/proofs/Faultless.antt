-- What follows where the lines of a text have no fault.
use Rattle.std.proofs.Common.{◌≡◌, ℕ, ◌≤◌, Bool, true, false, nat_lt, if◌then◌else◌, List, [], Option, Some, None, refl, sym, ap, ◌∙◌}
use Rattle.std.proofs.lemmas.Bool.{ltb-false}
use Rattle.occ_syntax.specs.occ_base.declared.names.Name.{Name}
use Rattle.occ_syntax.specs.Counts.{controls}
use Rattle.occ_parse_rules.specs.occ_parse_forms.declared.form.Param.{Param}
use Rattle.occ_parse_rules.specs.occ_parse_forms.Shape.{Shape, header, close}
use Rattle.occ_parse_rules.specs.Forest.{Forest, no_line, and_line}
use Rattle.occ_parse_rules.specs.Judging.{on_line, first_fault}
use Rattle.occ_parse_rules.specs.Limits.{bits_fault, bits_in_scope, copied_lines, count_fault}
use Rattle.occ_parse_rules.specs.Names.{name_fault, redeclares_some}
use Rattle.occ_parse_rules.specs.Places.{Sorts, param_entries}
use Rattle.occ_parse_rules.specs.Types.{type_fault, direction_fault}
use Rattle.occ_parse_rules.specs.Unrolled.{slot_process}
use Rattle.occ_parse_rules.specs.Programs.{param_scope}
use Rattle.occ_parse.specs.declared.bound.Bound.{Bound}
use Rattle.occ_parse.specs.declared.fault.ParseFault.{ParseFault}
use Rattle.occ_parse.specs.declared.fault.ParseFault.TheVariants as fault
use Rattle.occ_parse.specs.declared.fault.Which.{Which}
use Rattle.occ_parse.specs.declared.fault.Which.TheVariants as which
use Rattle.occ_parse.specs.Limits.{is_limited}
use Rattle.occ_parse.specs.Drafts.{header_line, header_params, header_below, as_fault, name_fault_on, type_fault_on, over, unnumbered, parameters, limit_fault, limit_fault_of, draft_fault}
use Rattle.occ_parse_rules.proofs.Facts.{if_none, on_line_none, or_else_none}

-- lines that begin with a header and end with a close
abbrev pub lines_of : ℕ → Name → List Param → Forest → ℕ → Forest
lines_of number name params below last = and_line number (header name params) below (and_line last close no_line no_line)

-- ---- faults of lines

pub as_fault_none : {F : Type 0} (on : ℕ → F → ParseFault) (o : Option (ℕ × F)) → as_fault on o ≡ None → o ≡ None
as_fault_none on None h = refl
as_fault_none on (Some found) h = absurd cc

over_none : (b : Bool) (w : Which) (n : ℕ) → over b w n ≡ None → b ≡ false
over_none true w n h = absurd cc
over_none false w n h = refl

-- what follows where the limits of lines that begin with a header are kept
pub record WithinLimits (params : List Param) (below : Forest) : Type 0 where
  pub few_parameters : parameters params ≤ 16
  pub few_controls : controls (slot_process unnumbered (param_scope params) below) ≤ 4096
  pub few_bits : bits_in_scope (param_scope params) ≤ 16
  pub narrow : first_fault bits_fault (param_scope params) (param_scope params) (copied_lines below) ≡ None

pub within_limits : (f : Forest) → limit_fault f ≡ None → WithinLimits (header_params f) (header_below f)
within_limits f h =
    let first = or_else_none (over (nat_lt 16 (parameters (header_params f))) which.Parameters (header_line f)) _ h in
    let second = or_else_none (as_fault (λ line found. fault.Limit which.Count line) (first_fault count_fault [] [] f)) _ first.1 in
    let third = or_else_none (over (nat_lt 4096 (controls (slot_process unnumbered (param_scope (header_params f)) (header_below f)))) which.Controls (header_line f)) _ second.1 in
    let fourth = or_else_none (over (nat_lt 16 (bits_in_scope (param_scope (header_params f)))) which.InterfaceBits (header_line f)) _ third.1 in
    record {
      few_parameters = ltb-false _ _ (over_none _ _ _ first.0);
      few_controls = ltb-false _ _ (over_none _ _ _ third.0);
      few_bits = ltb-false _ _ (over_none _ _ _ fourth.0);
      narrow = as_fault_none (λ line found. fault.Limit which.ScopeBits line) _ fourth.1;
    }

pub record NoFault (b : Bound) (f : Forest) : Type 0 where
  pub names : first_fault name_fault [] [] f ≡ None
  pub types : first_fault type_fault [] [] f ≡ None
  pub directions : first_fault direction_fault [] [] f ≡ None
  pub limits : limit_fault_of b f ≡ None

pub no_fault : (b : Bound) (f : Forest) → draft_fault b f ≡ None → NoFault b f
no_fault b f h =
    let first = or_else_none (as_fault name_fault_on (first_fault name_fault [] [] f)) _ h in
    let second = or_else_none (as_fault type_fault_on (first_fault type_fault [] [] f)) _ first.1 in
    let third = or_else_none (as_fault (λ line found. fault.Direction line) (first_fault direction_fault [] [] f)) _ second.1 in
    record {
      names = as_fault_none name_fault_on _ first.0;
      types = as_fault_none type_fault_on _ second.0;
      directions = as_fault_none (λ line found. fault.Direction line) _ third.0;
      limits = third.1;
    }

pub limits_kept : (b : Bound) (f : Forest) → is_limited b ≡ true → limit_fault_of b f ≡ None → limit_fault f ≡ None
limits_kept b f l h = sym (ap (λ t. if t then limit_fault f else None) l) ∙ h

-- ---- the lines below a header

module _ {F : Type 0} (judge : Sorts → Shape → Option F) (number : ℕ) (name : Name) (params : List Param) (below rest : Forest) where
  pub header_judged : first_fault judge [] [] (and_line number (header name params) below rest) ≡ None → judge [] (header name params) ≡ None
  header_judged h = on_line_none number (judge [] (header name params)) (or_else_none (on_line number (judge [] (header name params))) _ h).0

  pub below_judged : first_fault judge [] [] (and_line number (header name params) below rest) ≡ None → first_fault judge (param_scope params) (param_scope params) below ≡ None
  below_judged h = (or_else_none (first_fault judge (param_scope params) (param_scope params) below) _ (or_else_none (on_line number (judge [] (header name params))) _ h).1).0

pub declared_once : (name : Name) (params : List Param) → name_fault [] (header name params) ≡ None → redeclares_some [] (param_entries params) ≡ false
declared_once name params h = (if_none (redeclares_some [] (param_entries params)) _ _ h).0
