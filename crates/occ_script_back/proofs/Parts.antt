-- A printed part reads back.
use Rattle.std.proofs.Common.{◌≡◌, ℕ, List, [], ◌∷◌, length, map, Option, None, refl, ap, sym, ◌∙◌, subst}
use Rattle.std.specs.List.{AllByRecursion, flat_map}
use Rattle.occ_script_write.specs.occ_base.declared.names.Name.{Name}
use Rattle.occ_script_write.specs.occ_syntax.declared.scope.Kind.{Kind}
use Rattle.occ_script_write.specs.occ_syntax.Scopes.{environment}
use Rattle.occ_script_write.specs.occ_syntax.Tree.{Tree}
use Rattle.occ_script_write.specs.occ_lex.declared.symbol.Row.{Row}
use Rattle.occ_script_write.specs.occ_lex.Symbols.{rows_of}
use Rattle.occ_script.specs.occ_parse_part.Arrays.{arrays_of, line_arrays}
use Rattle.occ_script.specs.occ_parse_part.Elements.{Elements, elements_in, numbers, with_arrays}
use Rattle.occ_script.specs.occ_parse_part.Parts.{IsPart}
use Rattle.occ_script.specs.occ_parse_part.Resolving.{fault_in, part_fault, part_process, scope_params}
use Rattle.occ_script.proofs.from_parse_part.Covered.{Covers}
use Rattle.occ_print_back.specs.occ_parse.declared.bound.Bound.TheVariants as bound
use Rattle.occ_print_back.specs.occ_parse.declared.fault.ParseFault.{ParseFault}
use Rattle.occ_print_back.specs.occ_parse.declared.fault.ParseFault.TheVariants as fault
use Rattle.occ_print_back.specs.occ_parse.Drafts.{as_fault, name_fault_on, type_fault_on}
use Rattle.occ_print_back.specs.occ_parse.Limits.{stopped}
use Rattle.occ_print_back.specs.occ_parse.Reading.{AreForms}
use Rattle.occ_print_back.specs.occ_parse_rules.Forest.{Forest, Laid, lines_at, no_line}
use Rattle.occ_print_back.specs.occ_parse_rules.Judging.{first_fault, or_else}
use Rattle.occ_print_back.specs.occ_parse_rules.Names.{name_fault}
use Rattle.occ_print_back.specs.occ_parse_rules.Places.{Place, Sorts}
use Rattle.occ_print_back.specs.occ_parse_rules.Types.{type_fault, direction_fault}
use Rattle.occ_print_back.specs.occ_parse_rules.Unrolled.{Numbers, first_tree, slot_process}
use Rattle.occ_print_back.specs.occ_parse_rules.Programs.{param_scope}
use Rattle.occ_script_write.specs.occ_print.Lines.{part_lines}
use Rattle.occ_print_back.specs.Formed.{AreFormed}
use Rattle.occ_print_back.specs.Placed.{LinesAreSayable}
use Rattle.occ_print_back.specs.Program.{header_scope}
use Rattle.occ_print_back.specs.Read.{line_rows}
use Rattle.occ_print_back.specs.Scoped.{IsNumbered}
use Rattle.occ_print_back.proofs.Counted.{none_stopped, all_said}
use Rattle.occ_print_back.proofs.Forms.{alone}
use Rattle.occ_print_back.proofs.Ordering.{name_ok, type_ok, direction_ok, part_order}
use Rattle.occ_print_back.proofs.Programs.{header_scoped}
use Rattle.occ_print_back.proofs.Saying.{part_sayable}
use Rattle.occ_print_back.proofs.Stable.{numbered}
use Rattle.occ_print_back.proofs.Standing.{part_back}
use Rattle.occ_print_back.specs.occ_parse_unroll.Numbers.{number_in}
use Rattle.occ_script_back.specs.Back.{LinesAreThere, PartReadsBack}
use Rattle.occ_script_back.specs.Part.{IsPrintablePart, PartIsNarrow, arrays_of_part, lines_behind, lines_of_part, part_read, table_behind, text_behind}
use Rattle.occ_script_back.specs.Tables.{Grows, IsBase}
use Rattle.occ_script_back.proofs.Agreeing.{lines_apart, part_same}
use Rattle.occ_script_back.proofs.Bases.{arrays_are_bases}
use Rattle.occ_script_back.proofs.Elements.{once_all, covers, seen_numbered, scope_seen, seen_place, agrees}
use Rattle.occ_script_back.proofs.Growing.{arrays_grow}
use Rattle.occ_script_back.proofs.LaidWell.{part_laid_well}
use Rattle.occ_script_back.proofs.Reading.{lines_behind as lines_are_behind}

-- a part in a scope, where names are these places
module _ (count : ℕ) (R : ℕ → Place) (N : Numbers) (n : IsNumbered count R N) (names : List (List ℕ)) where
  no_fault : (Γ : Sorts) (f : Forest) → first_fault name_fault Γ Γ f ≡ None → first_fault type_fault Γ Γ f ≡ None → first_fault direction_fault Γ Γ f ≡ None → fault_in Γ f ≡ None
  no_fault Γ f a b d =
      ap (λ x. or_else (as_fault name_fault_on x) (or_else (as_fault type_fault_on (first_fault type_fault Γ Γ f)) (as_fault (λ line found. fault.Direction line) (first_fault direction_fault Γ Γ f)))) a
      ∙ ap (λ x. or_else (as_fault type_fault_on x) (as_fault (λ line found. fault.Direction line) (first_fault direction_fault Γ Γ f))) b
      ∙ ap (λ x. as_fault (λ line found. fault.Direction line) x) d

names_of : (xs : List ℕ) (Q : ℕ → Type 0) → AllByRecursion (λ (x : Name). Q x.0) (map (λ x. record { 0 = x }) xs) → AllByRecursion Q xs
names_of [] Q h = tt
names_of (x ∷ xs) Q h = (h.0, names_of xs Q h.1)

module _ (names : List (List ℕ)) (P : ℕ → Place) (scope : List (Name × Kind)) (number : ℕ) (part : Tree) (h : IsPrintablePart names P scope part) where
  abbrev f : Forest
  f = lines_of_part P number part

  sayable : LinesAreSayable (length names) (part_lines 1 part)
  sayable = part_sayable (length names) (environment scope) 1 part h.known h.types

  formed : AreFormed P number (part_lines 1 part) (lines_at 1 f)
  formed = alone (length names) P (number_in names) (numbered names P h.table) (environment scope) 1 number part h.known h.types

  bases : AllByRecursion (λ (x : Name). IsBase names x.0) (arrays_of_part P number part)
  bases = arrays_are_bases names P h.table number (part_lines 1 part) (lines_at 1 f) sayable formed

  grows : Grows names P (table_behind names P number part)
  grows = arrays_grow names P h.table (arrays_of_part P number part) bases

  pub lines_there : (front : List ℕ) → LinesAreThere names P front number part
  lines_there front =
      let b = lines_are_behind names P h.table front number (part_lines 1 part) sayable in
      record { faultless = b.faultless; rows_are = b.rows_are; table = b.table }

  pub part_there : (front : List ℕ) → PartIsNarrow part → IsPart (text_behind names front part) names (lines_behind names front number part) f
  part_there front narrow =
      let lines = part_lines 1 part in
      let text = text_behind names front part in
      let stops : stopped bound.Script (rows_of text names (lines_behind names front number part)) None ≡ (line_rows P number lines, None)
      = ap (λ rows. stopped bound.Script rows None) (lines_there front).rows_are ∙ none_stopped P number lines narrow in
      record {
        laid = lines_at 1 f;
        stop = None;
        judged = record {
          forms = subst (λ (r : List Row × Option ParseFault). AreForms r.0 (lines_at 1 f)) (sym stops) (all_said P number lines (lines_at 1 f) formed);
          stop_is = ap (λ (r : List Row × Option ParseFault). r.1) stops;
        };
        well = record { lines = refl; good = part_laid_well P number part; whole = refl };
      }

  abbrev arrays : List Name
  arrays = arrays_of_part P number part

  abbrev e : Elements
  e = elements_in (with_arrays names arrays) arrays

  abbrev R : ℕ → Place
  R = seen_place names P h.table arrays bases grows.0 grows.1

  n : IsNumbered (length names) R (numbers e)
  n = seen_numbered names P h.table arrays bases grows.0 grows.1

  all_covered : AllByRecursion (Covers (with_arrays names arrays) e) (flat_map (λ (l : Laid). line_arrays l.shape) (lines_at 1 f))
  all_covered =
      let Q = Covers (with_arrays names arrays) e in
      once_all Q (flat_map (λ (l : Laid). line_arrays l.shape) (lines_at 1 f)) (names_of (arrays_of (lines_at 1 f)) Q (covers names P h.table arrays bases grows.0 grows.1))

  same : lines_of_part R number part ≡ f
  same = part_same (Covers (with_arrays names arrays) e) (length names) P R (agrees names P h.table arrays bases grows.0 grows.1) 1 number part no_line h.known
      (lines_apart (Covers (with_arrays names arrays) e) (lines_at 1 f) all_covered)

  abbrev Γ : Sorts
  Γ = header_scope R scope

  scope_is : param_scope (scope_params e scope) ≡ Γ
  scope_is = ap param_scope (scope_seen names P h.table arrays bases grows.0 grows.1 scope)

  pub in_order : part_fault (part_read names P number part) scope ≡ None
  in_order =
      let g = lines_of_part R number part in
      let s = header_scoped (length names) R (numbers e) n scope h.scope_kept_is h.scope_known in
      let a = part_order name_fault name_ok (length names) R (numbers e) n (environment scope) Γ s number part no_line Γ h.known h.types refl in
      let b = part_order type_fault type_ok (length names) R (numbers e) n (environment scope) Γ s number part no_line Γ h.known h.types refl in
      let d = part_order direction_fault direction_ok (length names) R (numbers e) n (environment scope) Γ s number part no_line Γ h.known h.types refl in
      ap (λ Δ. fault_in Δ f) scope_is ∙ ap (fault_in Γ) (sym same) ∙ no_fault (length names) R (numbers e) n names Γ g a b d

  pub stands : part_process (part_read names P number part) scope ≡ part
  stands =
      let s = header_scoped (length names) R (numbers e) n scope h.scope_kept_is h.scope_known in
      ap (λ Δ. slot_process (numbers e) Δ f) scope_is ∙ ap (slot_process (numbers e) Γ) (sym same)
      ∙ ap first_tree (part_back (length names) R (numbers e) n (environment scope) Γ s (λ i. 0) number part no_line Γ [] h.known h.types)

  pub reads_back : (front : List ℕ) → PartIsNarrow part → PartReadsBack names P scope front number part
  reads_back front narrow = record {
    there = lines_there front;
    is_part = part_there front narrow;
    grows = grows;
    faultless = in_order;
    stands = stands;
  }
