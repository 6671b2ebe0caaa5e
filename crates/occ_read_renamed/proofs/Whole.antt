-- The parameters of a program that was read are an interface.
use Rattle.std.proofs.Common.{◌≡◌, ℕ, ◌≤◌, true, false, List, [], length, None, refl, sym, ap, subst, ◌∙◌, arith}
use Rattle.occ_nform.specs.occ_base.declared.names.Name.{Name}
use Rattle.occ_nform.specs.occ_base.Names.{IsDistinct}
use Rattle.occ_nform.specs.occ_syntax.declared.scope.Kind.{Kind}
use Rattle.occ_nform.specs.occ_syntax.Counts.{bits_of_scope}
use Rattle.occ_nform.specs.occ_syntax.Tree.{Tree}
use Rattle.occ_renamed.specs.occ_lex.Rows.{reading_of}
use Rattle.occ_renamed.specs.occ_lex.Symbols.{Extends}
use Rattle.occ_renamed.proofs.from_lex.Interned.{extends_trans}
use Rattle.occ_renamed.specs.occ_parse_forms.declared.form.Param.{Param}
use Rattle.occ_renamed.specs.occ_parse_forms.Shape.{close}
use Rattle.occ_renamed.specs.occ_parse_rules.Forest.{Forest, no_line, and_line, lines_at}
use Rattle.occ_renamed.specs.occ_parse_rules.Limits.{bits_in_scope}
use Rattle.occ_renamed.specs.occ_parse_rules.Names.{name_fault, redeclares_some}
use Rattle.occ_renamed.specs.occ_parse_rules.Places.{param_entries}
use Rattle.occ_renamed.specs.occ_parse_rules.Unrolled.{params_named}
use Rattle.occ_renamed.specs.occ_parse_rules.Programs.{param_scope}
use Rattle.occ_renamed.proofs.from_parse_rules.Small.{param_bits}
use Rattle.occ_renamed.specs.occ_parse_layout.declared.placed.Frame.TheVariants as frame
use Rattle.occ_renamed.specs.occ_parse_layout.Whole.{IsProgram}
use Rattle.occ_renamed.proofs.from_parse_layout.Framed.{whole_of}
use Rattle.occ_renamed.specs.occ_parse_unroll.Elements.{with_element, with_places, with_elements, program_places, params_places, elements}
use Rattle.occ_renamed.specs.occ_parse_unroll.Numbers.{number_in}
use Rattle.occ_renamed.proofs.from_parse_unroll.Elements.{places_behind}
use Rattle.occ_renamed.specs.occ_parse.declared.bound.Bound.TheVariants as bound
use Rattle.occ_renamed.specs.occ_parse.Drafts.{header_params, header_below, draft_fault}
use Rattle.occ_renamed.specs.occ_parse.Reading.{IsRead, names_in}
use Rattle.occ_renamed.proofs.from_parse.Faultless.{declared_once, header_judged, limits_kept, lines_of, no_fault, within_limits}
use Rattle.occ_renamed.proofs.from_parse.Places.{places_extend, places_distinct}
use Rattle.occ_nform.specs.occ_nform_table.Tables.{are_params, IsInterface}
use Rattle.occ_read_renamed.proofs.Header.{Table, all_distinct, AreGood, header_good}
use Rattle.occ_read_renamed.proofs.Named.{all_stand}
use Rattle.occ_read_renamed.proofs.Params.{interface}

-- what a program without a fault keeps of its parameters
record AreKept (params : List Param) : Type 0 where
  once : redeclares_some [] (param_entries params) ≡ false
  few : length (params_places params) ≤ 16
  bits : bits_in_scope (param_scope params) ≤ 16

are_kept : (number : ℕ) (name : Name) (params : List Param) (below : Forest) (last : ℕ) → draft_fault bound.Program (lines_of number name params below last) ≡ None → AreKept params
are_kept number name params below last h =
    let rest = and_line last close no_line no_line in
    let f = lines_of number name params below last in
    let none = no_fault bound.Program f h in
    let within = within_limits f (limits_kept bound.Program f refl none.limits) in
    record {
      once = declared_once name params (header_judged name_fault number name params below rest none.names);
      few = within.few_parameters;
      bits = within.few_bits;
    }

-- ---- a program that was read

-- what is said of a table and of parameters
abbrev pub AreInterface : Table → List (Name × Kind) → Type 0
AreInterface t params = IsDistinct t × IsInterface t params × (are_params t [] params ≡ true)

-- by the table before the elements of arrays, and with them
by_tables : (old t : Table) (name : Name) (params : List Param) (below : Forest) → IsDistinct old → AreGood old name params → AreKept params → t ≡ with_elements old params below
    → AreInterface t (params_named (number_in t) params)
by_tables old t name params below d g k table =
    let rest = (elements below).first (param_scope params) (λ i. 0) in
    let mid = with_places old (params_places params) in
    let two : t ≡ with_places mid rest = table ∙ places_behind with_element old (params_places params) rest in
    let behind : Extends mid t = subst (Extends mid) (sym two) (places_extend mid rest) in
    let all : Extends old t = extends_trans old mid t (places_extend old (params_places params)) behind in
    let distinct : IsDistinct t = subst IsDistinct (sym table) (places_distinct old (program_places params below) d) in
    let stand : _ = all_stand old t params g.named g.small name g.first behind all in
    let bits : bits_of_scope (params_named (number_in t) params) ≤ 16 = omega (arith, k.bits, param_bits (number_in t) params []) in
    let both = interface t distinct params k.once g.wide g.marked stand k.few bits in
    (distinct, both.0, both.1)

pub have_names : (text : List ℕ) (old new : Table) (name : Name) (params : List (Name × Kind)) (body : Tree) (numbers : List ℕ)
    → IsDistinct old → IsRead bound.Program text old new name params body numbers → AreInterface new params
have_names text old new name params body numbers d r =
    let f = r.draft in
    let p : IsProgram f = whole_of frame.Program (lines_at 0 f) f refl refl r.laid_out.good in
    let mid = names_in text old in
    let g = header_good text old f p r.laid_out.judged in
    let ps_are : header_params f ≡ p.params = ap (λ q. header_params q) p.whole in
    let below_is : header_below f ≡ p.below = ap (λ q. header_below q) p.whole in
    let table : new ≡ with_elements mid p.params p.below = r.table ∙ (λ i. with_elements mid (ps_are i) (below_is i)) in
    let kept = are_kept p.number p.name p.params p.below p.last (ap (λ q. draft_fault bound.Program q) (sym p.whole) ∙ r.in_order) in
    let single : IsDistinct mid = all_distinct text old (reading_of text).0 d in
    let params_are : params ≡ params_named (number_in new) p.params = r.params_are ∙ ap (λ qs. params_named (number_in new) qs) ps_are in
    subst (AreInterface new) (sym params_are) (by_tables mid new p.name p.params p.below single g kept table)
