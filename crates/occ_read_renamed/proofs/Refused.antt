-- A text that reads as a program with one table isn't refused with another one.
use Rattle.std.proofs.Common.{◌≡◌, ℕ, ◌+◌, false, nat_lt, if◌then◌else◌, List, [], ◌∷◌, map, Option, Some, None, refl, sym, ap, ap₂, ◌∙◌}
use Rattle.std.specs.List.{AllByRecursion}
use Rattle.std.specs.Prelude.{is_some}
use Rattle.occ_nform.specs.occ_base.Names.{IsDistinct}
use Rattle.occ_nform.specs.occ_base.declared.names.Name.{Name}
use Rattle.occ_renamed.specs.occ_lex.Rows.{reading_of}
use Rattle.occ_renamed.proofs.from_lex.Interned.{extends_same}
use Rattle.occ_renamed.proofs.from_meaning.Facts.{none_not_some, true_not_false}
use Rattle.occ_renamed.specs.occ_meaning.Rename.{all_renamed, branches_renamed, cases_renamed, renamed}
use Rattle.occ_renamed.proofs.from_parse.Forests.{program_of}
use Rattle.occ_renamed.proofs.from_parse.Placed.{good_are_placed}
use Rattle.occ_renamed.specs.occ_parse_forms.declared.form.Param.{Param}
use Rattle.occ_renamed.specs.occ_parse_layout.Layout.{least_bad}
use Rattle.occ_renamed.specs.occ_parse_layout.Whole.{IsProgram}
use Rattle.occ_renamed.specs.occ_parse.Drafts.{as_fault, draft_fault, header_below, header_line, header_params, limit_fault, name_fault_on, over, parameters, type_fault_on, unnumbered}
use Rattle.occ_renamed.specs.occ_parse.Limits.{frame_of, is_limited}
use Rattle.occ_renamed.specs.occ_parse.Reading.{AreJudged, IsRead, IsRefused, at_line, badly_laid, in_draft, names_in, too_long}
use Rattle.occ_renamed.specs.occ_parse.declared.bound.Bound.{Bound}
use Rattle.occ_renamed.specs.occ_parse.declared.fault.ParseFault.{ParseFault}
use Rattle.occ_renamed.specs.occ_parse.declared.fault.ParseFault.TheVariants as fault
use Rattle.occ_renamed.specs.occ_parse.declared.fault.Which.TheVariants as which
use Rattle.occ_renamed.proofs.from_parse.Once.{OneForm}
use Rattle.occ_renamed.specs.Renamed.{forest_renamed, params_renamed}
use Rattle.occ_renamed.specs.Standing.{IsNumberedSo, IsOneForOne}
use Rattle.occ_renamed.proofs.Faults.{all_bits_same, as_many_parameters, copied_so, counts_same, directions_same, names_same, scope_bits, types_same}
use Rattle.occ_renamed.proofs.Lines.{program_so}
use Rattle.occ_renamed.proofs.Scopes.{params_scope}
use Rattle.occ_renamed.specs.occ_parse_rules.Forest.{Forest, Laid, lines_at}
use Rattle.occ_renamed.specs.occ_parse_rules.Judging.{first_fault, or_else}
use Rattle.occ_renamed.specs.occ_parse_rules.Limits.{bits_fault, bits_in_scope, copied_lines}
use Rattle.occ_renamed.specs.occ_parse_rules.Places.{Place}
use Rattle.occ_renamed.specs.occ_parse_rules.Unrolled.{Numbers, slot_process}
use Rattle.occ_renamed.specs.occ_parse_rules.Programs.{param_scope}
use Rattle.occ_renamed.proofs.from_parse_unroll.Sized.{slot_process_size}
use Rattle.occ_renamed.specs.occ_parse_unroll.Elements.{program_places}
use Rattle.occ_read_renamed.specs.Readings.{StandIn}
use Rattle.occ_read_renamed.proofs.Laid.{drafts_so, laid_renamed, laid_so, stop_so}
use Rattle.occ_read_renamed.proofs.Outlines.{least_same}
use Rattle.occ_read_renamed.proofs.Numbers.{Table, number_in_other, renumbering}
use Rattle.occ_read_renamed.proofs.Programs.{AreGood, below_so, good, params_so}
use Rattle.occ_read_renamed.proofs.Rows.{lines_distinct, lines_stand}
use Rattle.occ_nform.specs.occ_syntax.Counts.{controls, controls_of_all, controls_of_branches, controls_of_cases}
use Rattle.occ_nform.specs.occ_syntax.Tree.{Branches, Cases, Tree, Trees, alt, and_branch, and_case, and_tree, assign, connect, declare, no_branch, no_case, no_tree, par, receive, select, send, seq, skip, stop}
use Rattle.occ_nform.specs.occ_syntax.declared.scope.Kind.{Kind}

-- ---- controls don't see names

mutual
  controls_same : (f : ℕ → ℕ) (p : Tree) → controls (renamed p f) ≡ controls p
  controls_same f skip = refl
  controls_same f stop = refl
  controls_same f (assign xs es) = refl
  controls_same f (receive c x) = refl
  controls_same f (send c e) = refl
  controls_same f (seq ps) = ap (λ n. 1 + n) (all_controls f ps)
  controls_same f (par ps) = ap (λ n. 1 + n) (all_controls f ps)
  controls_same f (select cs) = ap (λ n. 1 + n) (cases_controls f cs)
  controls_same f (alt bs) = ap (λ n. 1 + n) (branches_controls f bs)
  controls_same f (declare x w p) = ap (λ n. 1 + n) (controls_same f p)
  controls_same f (connect c w p) = ap (λ n. 1 + n) (controls_same f p)

  all_controls : (f : ℕ → ℕ) (ps : Trees) → controls_of_all (all_renamed ps f) ≡ controls_of_all ps
  all_controls f no_tree = refl
  all_controls f (and_tree p ps) = ap₂ (λ m n. m + n) (controls_same f p) (all_controls f ps)

  cases_controls : (f : ℕ → ℕ) (cs : Cases) → controls_of_cases (cases_renamed cs f) ≡ controls_of_cases cs
  cases_controls f no_case = refl
  cases_controls f (and_case e p cs) = ap₂ (λ m n. 1 + m + n) (controls_same f p) (cases_controls f cs)

  branches_controls : (f : ℕ → ℕ) (bs : Branches) → controls_of_branches (branches_renamed bs f) ≡ controls_of_branches bs
  branches_controls f no_branch = refl
  branches_controls f (and_branch e w p bs) = ap₂ (λ m n. 1 + m + n) (controls_same f p) (branches_controls f bs)

-- by the names of arrays alone each place is numbered so
abbrev by_name : Numbers
by_name x k = x

all_so : (f : ℕ → ℕ) (ps : List Place) → AllByRecursion (IsNumberedSo f by_name by_name) ps
all_so f [] = tt
all_so f (p ∷ ps) = (refl, all_so f ps)

module _ (f : ℕ → ℕ) (one : IsOneForOne f) (b : Bound) (g : Forest) (p : IsProgram g) (a : AreGood g) where
  abbrev params : List Param
  params = header_params g

  abbrev below : Forest
  below = header_below g

  slot_controls : controls (slot_process unnumbered (param_scope (params_renamed f params)) (forest_renamed f below)) ≡ controls (slot_process unnumbered (param_scope params) below)
  slot_controls =
      let other = param_scope (params_renamed f params) in
      let h = program_so f one by_name by_name params below (record { placed = a.placed; lines = a.lines; places = all_so f (program_places params below) }) in
      slot_process_size unnumbered other (forest_renamed f below)
      ∙ (sym (slot_process_size by_name other (forest_renamed f below))
      ∙ (ap controls h
      ∙ (controls_same f (slot_process by_name (param_scope params) below)
      ∙ (slot_process_size by_name (param_scope params) below ∙ sym (slot_process_size unnumbered (param_scope params) below)))))

  line_same : header_line (forest_renamed f g) ≡ header_line g
  line_same = ap (λ h. header_line (forest_renamed f h)) p.whole ∙ sym (ap (λ h. header_line h) p.whole)

  scope_same : bits_in_scope (param_scope (params_renamed f params)) ≡ bits_in_scope (param_scope params)
  scope_same = ap bits_in_scope (params_scope f [] params) ∙ scope_bits f one (param_scope params)

  bits_same : first_fault bits_fault (param_scope (params_renamed f params)) (param_scope (params_renamed f params)) (copied_lines (forest_renamed f below))
      ≡ first_fault bits_fault (param_scope params) (param_scope params) (copied_lines below)
  bits_same =
      ap₂ (λ Γ h. first_fault bits_fault Γ Γ h) (params_scope f [] params) (copied_so f one below) ∙ all_bits_same f one (param_scope params) (param_scope params) (copied_lines below)

  limits_same : limit_fault (forest_renamed f g) ≡ limit_fault g
  limits_same =
      let us = params_so f g p in
      let gs = below_so f g p in
      let n = line_same in
      let many : parameters (header_params (forest_renamed f g)) ≡ parameters params = ap parameters us ∙ as_many_parameters f one params in
      let counts = counts_same f one [] [] g in
      let size : controls (slot_process unnumbered (param_scope (header_params (forest_renamed f g))) (header_below (forest_renamed f g)))
      ≡ controls (slot_process unnumbered (param_scope params) below) =
      ap₂ (λ vs h. controls (slot_process unnumbered (param_scope vs) h)) us gs ∙ slot_controls in
      let bits : bits_in_scope (param_scope (header_params (forest_renamed f g))) ≡ bits_in_scope (param_scope params) = ap (λ vs. bits_in_scope (param_scope vs)) us ∙ scope_same in
      let narrow : first_fault bits_fault (param_scope (header_params (forest_renamed f g))) (param_scope (header_params (forest_renamed f g))) (copied_lines (header_below (forest_renamed f g)))
      ≡ first_fault bits_fault (param_scope params) (param_scope params) (copied_lines below) =
      ap₂ (λ vs h. first_fault bits_fault (param_scope vs) (param_scope vs) (copied_lines h)) us gs ∙ bits_same in
      λ i. or_else (over (nat_lt 16 (many i)) which.Parameters (n i))
      (or_else (as_fault (λ line found. fault.Limit which.Count line) (counts i))
      (or_else (over (nat_lt 4096 (size i)) which.Controls (n i))
      (or_else (over (nat_lt 16 (bits i)) which.InterfaceBits (n i))
      (as_fault (λ line found. fault.Limit which.ScopeBits line) (narrow i)))))

  pub draft_same : draft_fault b (forest_renamed f g) ≡ draft_fault b g
  draft_same =
      let names = names_same f one [] [] g in
      let types = types_same f one [] [] g in
      let directions = directions_same f one [] [] g in
      let limits = limits_same in
      λ i. or_else (as_fault name_fault_on (names i))
      (or_else (as_fault type_fault_on (types i))
      (or_else (as_fault (λ line found. fault.Direction line) (directions i))
      (if is_limited b then limits i else None)))

-- ---- a text that was read

both_ways : {A : Type 0} {x : A} (o p : Option A) → o ≡ None → p ≡ Some x → o ≡ p → ⊥
both_ways o p h k e = none_not_some (sym h ∙ (e ∙ k))

module _ (form : OneForm) (b : Bound) (text : List ℕ) (old between : Table) (d : IsDistinct old) (e : IsDistinct between) (s : StandIn old between)
    (new : Table) (n : Name) (ps : List (Name × Kind)) (p : Tree) (ks : List ℕ) (x : IsRead b text old new n ps p ks) where
  abbrev names : Table
  names = names_in text old

  abbrev others : Table
  others = names_in text between

  distinct : IsDistinct names
  distinct = lines_distinct text old (reading_of text).0 d

  distinct_others : IsDistinct others
  distinct_others = lines_distinct text between (reading_of text).0 e

  stand : StandIn names others
  stand = lines_stand text old between (reading_of text).0 s

  abbrev f : ℕ → ℕ
  f = number_in_other names others

  laid_is : (ls : List Laid) (end : Option ParseFault) → AreJudged b text between ls end → ls ≡ map (laid_renamed f) (lines_at 0 x.draft)
  laid_is ls end j = laid_so form b text old between names others distinct distinct_others stand (extends_same names) (extends_same others) x.draft ls end x.laid_out j

  stop_is : (ls : List Laid) (end : Option ParseFault) → AreJudged b text between ls end → end ≡ None
  stop_is ls end j = stop_so form b text old between names others distinct distinct_others stand (extends_same names) (extends_same others) x.draft ls end x.laid_out j

  pub not_refused : (fault : ParseFault) → IsRefused b text between fault → ⊥
  not_refused fault (too_long h) = true_not_false (sym h ∙ x.laid_out.judged.short)
  not_refused fault (badly_laid laid end k j h) =
      both_ways (least_bad (frame_of b) false (lines_at 0 x.draft)) (least_bad (frame_of b) (is_some end) laid) x.laid_out.good h
      (sym (least_same f (frame_of b) false (lines_at 0 x.draft))
      ∙ ap₂ (λ ls o. least_bad (frame_of b) (is_some o) ls) (sym (laid_is laid end j)) (sym (stop_is laid end j)))
  not_refused fault (at_line laid g j h) = none_not_some (sym (stop_is laid (Some g) j))
  not_refused fault (in_draft draft g l h) =
      let is = drafts_so form b text old between names others distinct distinct_others stand (extends_same names) (extends_same others) x.draft draft x.laid_out l in
      let whole = program_of b text old x.draft x.laid_out in
      let same = draft_same f (renumbering names others distinct stand).one_for_one b x.draft whole
      (good b x.draft whole x.in_order (good_are_placed b x.draft x.laid_out.good)) in
      both_ways (draft_fault b x.draft) (draft_fault b draft) x.in_order h (sym same ∙ ap (draft_fault b) (sym is))
