-- The elements of arrays that lines speak of have known names, where those of the lines are known.
use Rattle.std.proofs.Common.{ℕ, zero, suc, ◌+◌, ◌<◌, List, [], ◌∷◌, ◌++◌, Option, Some, None}
use Rattle.std.specs.List.{AllByRecursion}
use Rattle.std.specs.Prelude.{option_to_list, IfSome}
use Rattle.occ_script_back.specs.occ_parse_forms.declared.form.Declared.{Declared}
use Rattle.occ_script_back.specs.occ_parse_forms.declared.form.Declared.TheVariants as declared
use Rattle.occ_script_back.specs.occ_parse_forms.declared.form.Group.{Group}
use Rattle.occ_script_back.specs.occ_parse_forms.declared.form.Group.TheVariants as word
use Rattle.occ_script_back.specs.occ_parse_forms.declared.form.Item.{Item}
use Rattle.occ_script_back.specs.occ_parse_forms.declared.form.Param.{Param}
use Rattle.occ_script_back.specs.occ_parse_forms.declared.form.Times.{Times}
use Rattle.occ_script_back.specs.occ_parse_forms.declared.phrase.Index.{Index}
use Rattle.occ_script_back.specs.occ_parse_forms.Shape.{Said, Shape}
use Rattle.occ_script_back.specs.occ_parse_forms.Shape as line
use Rattle.occ_script_back.specs.occ_parse_rules.declared.sort.Sort.{Sort}
use Rattle.occ_script_back.specs.occ_parse_rules.declared.sort.Sort.TheVariants as sort
use Rattle.occ_script_back.specs.occ_parse_rules.Forest.{Forest, no_line, and_line}
use Rattle.occ_script_back.specs.occ_parse_rules.Places.{Indices, Place, Sorts, counter_of, declared_in, element_at, elements_from, entries_of, index_at, numbers_from, param_entries, place_with, places, with_index}
use Rattle.occ_script_back.specs.occ_parse_rules.Types.{sort_here}
use Rattle.occ_script_back.specs.occ_parse_rules.Unrolled.{copies}
use Rattle.occ_script_back.specs.occ_parse_unroll.Elements.{Elements, all_places, as_slots, branch_places, case_places, construct_places, copied_places, elements, first_places, item_places, items_places, nested_branches_places, nested_cases_places, operand_places, params_places, parts_places, places_in, process_places, program_places, values_places, waiting_places}
use Rattle.occ_script_back.specs.occ_parse_unroll.Known.{AreKnownLines, IsKnownDeclared, IsKnownElement, IsKnownItem, IsKnownLine, IsKnownParam, IsKnownSaid, IsKnownWaiting}

-- an element's array is below n
abbrev pub IsLow : ℕ → Place → Type 0
IsLow n p = IfSome p.element (λ k. p.name < n)

module _ (n : ℕ) where
  abbrev AreLow : List Place → Type 0
  AreLow ps = AllByRecursion (IsLow n) ps

  both : (ps qs : List Place) → AreLow ps → AreLow qs → AreLow (ps ++ qs)
  both [] qs h k = k
  both (p ∷ ps) qs h k = (h.0, both ps qs h.1 k)

  -- ---- what stands on a line

  place_low : (x : ℕ) (o : Option ℕ) → x < n → AreLow (option_to_list (element_at x o))
  place_low x None h = tt
  place_low x (Some k) h = (h, tt)

  item_at : (ρ : Indices) (x : ℕ) (i : Option Index) → IsKnownElement n x i → AreLow (option_to_list (place_with ρ x i))
  item_at ρ x None h = (tt, tt)
  item_at ρ x (Some i) h = place_low x (index_at ρ i) h

  item_low : (ρ : Indices) (i : Item) → IsKnownItem n i → AreLow (item_places ρ i)
  item_low ρ i h = item_at ρ i.name.0 i.index h

  items_low : (ρ : Indices) (is : List Item) → AllByRecursion (IsKnownItem n) is → AreLow (items_places ρ is)
  items_low ρ [] h = tt
  items_low ρ (i ∷ is) h = both (item_places ρ i) (items_places ρ is) (item_low ρ i h.0) (items_low ρ is h.1)

  operand_low : (o : Option Sort) (ps : List Place) → AreLow ps → AreLow (operand_places o ps)
  operand_low (Some (sort.Counter b m)) ps h = tt
  operand_low (Some (sort.Variable width)) ps h = h
  operand_low (Some (sort.Channel width mark)) ps h = h
  operand_low None ps h = h

  said_low : (Γ : Sorts) (ρ : Indices) (e : Said) → IsKnownSaid n e → AreLow (places_in Γ ρ e)
  said_low Γ ρ (line.item i) h = operand_low (sort_here Γ ρ i) (item_places ρ i) (item_low ρ i h)
  said_low Γ ρ (line.numeral v) h = tt
  said_low Γ ρ (line.typed v width) h = tt
  said_low Γ ρ (line.truth b) h = tt
  said_low Γ ρ (line.negation e) h = said_low Γ ρ e h
  said_low Γ ρ (line.complement e) h = said_low Γ ρ e h
  said_low Γ ρ (line.operation op left right) h = both (places_in Γ ρ left) (places_in Γ ρ right) (said_low Γ ρ left h.0) (said_low Γ ρ right h.1)

  values_low : (Γ : Sorts) (ρ : Indices) (xs : List Item) (es : List Said) → AllByRecursion (IsKnownSaid n) es → AreLow (values_places Γ ρ xs es)
  values_low Γ ρ [] es h = tt
  values_low Γ ρ (x ∷ xs) [] h = tt
  values_low Γ ρ (x ∷ xs) (e ∷ es) h = both (places_in Γ ρ e) (values_places Γ ρ xs es) (said_low Γ ρ e h.0) (values_low Γ ρ xs es h.1)

  waiting_low : (Γ : Sorts) (ρ : Indices) (w : line.Waiting) → IsKnownWaiting n w → AreLow (waiting_places Γ ρ w)
  waiting_low Γ ρ line.ready h = tt
  waiting_low Γ ρ (line.input c x) h = both (item_places ρ c) (item_places ρ x) (item_low ρ c h.0) (item_low ρ x h.1)
  waiting_low Γ ρ (line.output c e) h = both (item_places ρ c) (places_in Γ ρ e) (item_low ρ c h.0) (said_low Γ ρ e h.1)

  -- ---- declarations

  pub elements_low : (x k m : ℕ) → x < n → AreLow (elements_from x k m)
  elements_low x k zero h = tt
  elements_low x k (suc m) h = (h, elements_low x (k + 1) m h)

  declared_low : (d : Declared) → IsKnownDeclared n d → AreLow (places d)
  declared_low (declared.Plain x) h = (tt, tt)
  declared_low (declared.Element x k) h = (h, tt)
  declared_low (declared.Array x m) h = elements_low x.0 0 m h

  all_declared_low : (ds : List Declared) → AllByRecursion (IsKnownDeclared n) ds → AreLow (all_places ds)
  all_declared_low [] h = tt
  all_declared_low (d ∷ ds) h = both (places d) (all_places ds) (declared_low d h.0) (all_declared_low ds h.1)

  params_low : (ps : List Param) → AllByRecursion (IsKnownParam n) ps → AreLow (params_places ps)
  params_low [] h = tt
  params_low (p ∷ ps) h = both (places p.declared) (params_places ps) (declared_low p.declared h.0) (params_low ps h.1)

  -- ---- lines one below another

  record AreLowLines (E : Elements) : Type 0 where
    parts : (outer Γ : Sorts) (ρ : Indices) → AreLow (E.parts outer Γ ρ)
    first : (Γ : Sorts) (ρ : Indices) → AreLow (E.first Γ ρ)
    cases : (Γ : Sorts) (ρ : Indices) → AreLow (E.cases Γ ρ)
    branches : (Γ : Sorts) (ρ : Indices) → AreLow (E.branches Γ ρ)

  module _ (ps : Sorts → Indices → List Place) (low : (Γ : Sorts) (ρ : Indices) → AreLow (ps Γ ρ)) where
    copies_low : (times : Times) (Γ : Sorts) (ρ : Indices) (vs : List ℕ) → AreLow (copies (λ qs rs. qs ++ rs) [] times Γ ρ ps vs)
    copies_low times Γ ρ [] = tt
    copies_low times Γ ρ (v ∷ vs) =
        let Δ = counter_of times ∷ Γ in
        let σ = with_index ρ times.index.0 v in
        both (ps Δ σ) (copies (λ qs rs. qs ++ rs) [] times Γ ρ ps vs) (low Δ σ) (copies_low times Γ ρ vs)

    copied_low : (times : Option Times) (Γ : Sorts) (ρ : Indices) → AreLow (copied_places times Γ ρ ps)
    copied_low None Γ ρ = low Γ ρ
    copied_low (Some times) Γ ρ = copies_low times Γ ρ (numbers_from times.base times.count)

  module _ (E : Elements) (B : AreLowLines E) where
    construct_low : (g : Group) (times : Option Times) (Γ : Sorts) (ρ : Indices) → AreLow (construct_places g times E Γ ρ)
    construct_low word.Seq times Γ ρ = copied_low (as_slots E) (λ Δ σ. B.parts Δ Δ σ) times Γ ρ
    construct_low word.Par times Γ ρ = copied_low (as_slots E) (λ Δ σ. B.parts Δ Δ σ) times Γ ρ
    construct_low word.If times Γ ρ = copied_low E.cases B.cases times Γ ρ
    construct_low word.Alt times Γ ρ = copied_low E.branches B.branches times Γ ρ

    process_low : (s : Shape) (Γ : Sorts) (ρ : Indices) → IsKnownLine n s → AreLow (process_places s E Γ ρ)
    process_low (line.header name params) Γ ρ h = tt
    process_low line.close Γ ρ h = tt
    process_low line.skip Γ ρ h = tt
    process_low line.stop Γ ρ h = tt
    process_low (line.assign xs es) Γ ρ h = both (items_places ρ xs) (values_places Γ ρ xs es) (items_low ρ xs h.0) (values_low Γ ρ xs es h.1)
    process_low (line.receive c x) Γ ρ h = both (item_places ρ c) (item_places ρ x) (item_low ρ c h.0) (item_low ρ x h.1)
    process_low (line.send c e) Γ ρ h = both (item_places ρ c) (places_in Γ ρ e) (item_low ρ c h.0) (said_low Γ ρ e h.1)
    process_low (line.group g times) Γ ρ h = construct_low g times Γ ρ
    process_low (line.declare kind ds) Γ ρ h = tt
    process_low (line.condition e) Γ ρ h = tt
    process_low (line.guard e w) Γ ρ h = tt
    process_low line.nothing Γ ρ h = tt

    nested_cases_low : (g : Group) (times : Option Times) (Γ : Sorts) (ρ : Indices) → AreLow (nested_cases_places g times E Γ ρ)
    nested_cases_low word.Seq times Γ ρ = tt
    nested_cases_low word.Par times Γ ρ = tt
    nested_cases_low word.If times Γ ρ = copied_low E.cases B.cases times Γ ρ
    nested_cases_low word.Alt times Γ ρ = tt

    nested_branches_low : (g : Group) (times : Option Times) (Γ : Sorts) (ρ : Indices) → AreLow (nested_branches_places g times E Γ ρ)
    nested_branches_low word.Seq times Γ ρ = tt
    nested_branches_low word.Par times Γ ρ = tt
    nested_branches_low word.If times Γ ρ = tt
    nested_branches_low word.Alt times Γ ρ = copied_low E.branches B.branches times Γ ρ

    case_low : (s : Shape) (Γ : Sorts) (ρ : Indices) → IsKnownLine n s → AreLow (case_places s E Γ ρ)
    case_low (line.condition e) Γ ρ h = both (places_in Γ ρ e) (E.first Γ ρ) (said_low Γ ρ e h) (B.first Γ ρ)
    case_low (line.group g times) Γ ρ h = nested_cases_low g times Γ ρ
    case_low (line.header name params) Γ ρ h = tt
    case_low line.close Γ ρ h = tt
    case_low line.skip Γ ρ h = tt
    case_low line.stop Γ ρ h = tt
    case_low (line.assign xs es) Γ ρ h = tt
    case_low (line.receive c x) Γ ρ h = tt
    case_low (line.send c e) Γ ρ h = tt
    case_low (line.declare kind ds) Γ ρ h = tt
    case_low (line.guard e w) Γ ρ h = tt
    case_low line.nothing Γ ρ h = tt

    branch_low : (s : Shape) (Γ : Sorts) (ρ : Indices) → IsKnownLine n s → AreLow (branch_places s E Γ ρ)
    branch_low (line.receive c x) Γ ρ h =
        both (waiting_places Γ ρ (line.input c x)) (E.first Γ ρ) (waiting_low Γ ρ (line.input c x) h) (B.first Γ ρ)
    branch_low (line.send c e) Γ ρ h =
        both (waiting_places Γ ρ (line.output c e)) (E.first Γ ρ) (waiting_low Γ ρ (line.output c e) h) (B.first Γ ρ)
    branch_low (line.guard e w) Γ ρ h =
        let here = places_in Γ ρ e ++ waiting_places Γ ρ w in
        both here (E.first Γ ρ) (both (places_in Γ ρ e) (waiting_places Γ ρ w) (said_low Γ ρ e h.0) (waiting_low Γ ρ w h.1)) (B.first Γ ρ)
    branch_low (line.group g times) Γ ρ h = nested_branches_low g times Γ ρ
    branch_low (line.header name params) Γ ρ h = tt
    branch_low line.close Γ ρ h = tt
    branch_low line.skip Γ ρ h = tt
    branch_low line.stop Γ ρ h = tt
    branch_low (line.assign xs es) Γ ρ h = tt
    branch_low (line.declare kind ds) Γ ρ h = tt
    branch_low (line.condition e) Γ ρ h = tt
    branch_low line.nothing Γ ρ h = tt

    module _ (F : Elements) (R : AreLowLines F) where
      parts_low : (s : Shape) (outer Γ : Sorts) (ρ : Indices) → IsKnownLine n s → AreLow (parts_places s E F outer Γ ρ)
      parts_low (line.declare kind ds) outer Γ ρ h =
          let Δ = declared_in Γ (entries_of kind ds) in both (all_places ds) (F.parts outer Δ ρ) (all_declared_low ds h) (R.parts outer Δ ρ)
      parts_low (line.header name params) outer Γ ρ h = R.parts outer outer ρ
      parts_low line.close outer Γ ρ h = R.parts outer outer ρ
      parts_low line.skip outer Γ ρ h = R.parts outer outer ρ
      parts_low line.stop outer Γ ρ h = R.parts outer outer ρ
      parts_low (line.assign xs es) outer Γ ρ h =
          let s = line.assign xs es in both (process_places s E Γ ρ) (F.parts outer outer ρ) (process_low s Γ ρ h) (R.parts outer outer ρ)
      parts_low (line.receive c x) outer Γ ρ h =
          let s = line.receive c x in both (process_places s E Γ ρ) (F.parts outer outer ρ) (process_low s Γ ρ h) (R.parts outer outer ρ)
      parts_low (line.send c e) outer Γ ρ h =
          let s = line.send c e in both (process_places s E Γ ρ) (F.parts outer outer ρ) (process_low s Γ ρ h) (R.parts outer outer ρ)
      parts_low (line.group g times) outer Γ ρ h =
          let s = line.group g times in both (process_places s E Γ ρ) (F.parts outer outer ρ) (process_low s Γ ρ h) (R.parts outer outer ρ)
      parts_low (line.condition e) outer Γ ρ h = R.parts outer outer ρ
      parts_low (line.guard e w) outer Γ ρ h = R.parts outer outer ρ
      parts_low line.nothing outer Γ ρ h = R.parts outer outer ρ

      first_low : (s : Shape) (Γ : Sorts) (ρ : Indices) → IsKnownLine n s → AreLow (first_places s E F Γ ρ)
      first_low (line.declare kind ds) Γ ρ h =
          let Δ = declared_in Γ (entries_of kind ds) in both (all_places ds) (F.first Δ ρ) (all_declared_low ds h) (R.first Δ ρ)
      first_low (line.header name params) Γ ρ h = tt
      first_low line.close Γ ρ h = tt
      first_low line.skip Γ ρ h = tt
      first_low line.stop Γ ρ h = tt
      first_low (line.assign xs es) Γ ρ h = process_low (line.assign xs es) Γ ρ h
      first_low (line.receive c x) Γ ρ h = process_low (line.receive c x) Γ ρ h
      first_low (line.send c e) Γ ρ h = process_low (line.send c e) Γ ρ h
      first_low (line.group g times) Γ ρ h = process_low (line.group g times) Γ ρ h
      first_low (line.condition e) Γ ρ h = tt
      first_low (line.guard e w) Γ ρ h = tt
      first_low line.nothing Γ ρ h = tt

  lines_low : (f : Forest) → AreKnownLines n f → AreLowLines (elements f)
  lines_low no_line h = record { parts = λ outer Γ ρ. tt; first = λ Γ ρ. tt; cases = λ Γ ρ. tt; branches = λ Γ ρ. tt }
  lines_low (and_line number s below rest) h =
      let E = elements below in
      let F = elements rest in
      let B = lines_low below h.1 in
      let R = lines_low rest h.2 in
      record {
        parts = λ outer Γ ρ. parts_low E B F R s outer Γ ρ h.0;
        first = λ Γ ρ. first_low E B F R s Γ ρ h.0;
        cases = λ Γ ρ. both (case_places s E Γ ρ) (F.cases Γ ρ) (case_low E B s Γ ρ h.0) (R.cases Γ ρ);
        branches = λ Γ ρ. both (branch_places s E Γ ρ) (F.branches Γ ρ) (branch_low E B s Γ ρ h.0) (R.branches Γ ρ);
      }

  pub program_low : (ps : List Param) (below : Forest) → AllByRecursion (IsKnownParam n) ps → AreKnownLines n below → AllByRecursion (IsLow n) (program_places ps below)
  program_low ps below h k =
      let Γ = declared_in [] (param_entries ps) in
      both (params_places ps) ((elements below).first Γ (λ i. 0)) (params_low ps h) ((lines_low below k).first Γ (λ i. 0))
