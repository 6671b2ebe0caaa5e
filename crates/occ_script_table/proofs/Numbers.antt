-- Lines stand for the same program by two numberings that agree on the places that they speak of.
use Rattle.std.proofs.Common.{◌≡◌, ℕ, true, List, [], ◌∷◌, ◌++◌, map, Option, Some, None, refl, ap, ap₂, ◌∙◌}
use Rattle.std.specs.List.{AllByRecursion}
use Rattle.std.specs.Prelude.{option_to_list, unwrap_or}
use Rattle.occ_script_back.specs.occ_base.declared.names.Name.{Name}
use Rattle.occ_script_back.specs.occ_base.declared.width.Width.{Width}
use Rattle.occ_script_back.specs.occ_base.declared.width.Width.TheVariants.{Bool as TruthValue}
use Rattle.occ_script_back.specs.occ_parse_forms.declared.form.Declared.{Declared}
use Rattle.occ_script_back.specs.occ_parse_forms.declared.form.Group.{Group}
use Rattle.occ_script_back.specs.occ_parse_forms.declared.form.Group.TheVariants as word
use Rattle.occ_script_back.specs.occ_parse_forms.declared.form.Item.{Item}
use Rattle.occ_script_back.specs.occ_parse_forms.declared.form.Param.{Param}
use Rattle.occ_script_back.specs.occ_parse_forms.declared.form.Times.{Times}
use Rattle.occ_script_back.specs.occ_parse_forms.Shape.{Said, Shape}
use Rattle.occ_script_back.specs.occ_parse_forms.Shape as line
use Rattle.occ_script_back.specs.occ_parse_rules.declared.sort.Sort.{Sort}
use Rattle.occ_script_back.specs.occ_parse_rules.declared.sort.Sort.TheVariants as sort
use Rattle.occ_script_back.specs.occ_parse_rules.Forest.{Forest, no_line, and_line}
use Rattle.occ_script_back.specs.occ_parse_rules.Places.{Indices, Place, Sorts, counter_of, declared_in, entries_of, numbers_from, place_at, places, with_index}
use Rattle.occ_script_back.specs.occ_parse_rules.Types.{asks, channel_here, class, or_width, own, sort_here, variable_here}
use Rattle.occ_script_back.specs.occ_parse_rules.Unrolled.{Lines, Numbers, all_named, and_lines, as_parts, branch_line, branches_then, case_line, cases_then, condition, construct, copied, copies, expression, first_tree, item_exp, item_number, nested_branches, nested_cases, number_of, params_named, part_line, process, slot, slot_process, trees_then, unrolled, values, waited}
use Rattle.occ_script_back.specs.occ_parse_unroll.Elements.{Elements, all_places, and_elements, as_slots, branch_places, case_places, construct_places, copied_places, elements, first_places, item_places, items_places, nested_branches_places, nested_cases_places, operand_places, params_places, parts_places, places_in, process_places, values_places, waiting_places}
use Rattle.occ_script_back.specs.occ_syntax.declared.scope.Kind.{Kind}
use Rattle.occ_script_back.specs.occ_syntax.Declarations.{declaring_all}
use Rattle.occ_script_back.specs.occ_syntax.Tree.{Exp, Waiting, alt, and_branch, and_case, and_tree, assign, complement, input, negation, no_branch, no_case, no_tree, operation, output, par, receive, select, send, seq, truth, variable}

pub front_of : {A : Type 0} (R : A → Type 0) (xs ys : List A) → AllByRecursion R (xs ++ ys) → AllByRecursion R xs
front_of R [] ys h = tt
front_of R (x ∷ xs) ys h = (h.0, front_of R xs ys h.1)

pub back_of : {A : Type 0} (R : A → Type 0) (xs ys : List A) → AllByRecursion R (xs ++ ys) → AllByRecursion R ys
back_of R [] ys h = h
back_of R (x ∷ xs) ys h = back_of R xs ys h.1

module _ (N M : Numbers) where
  abbrev pub IsSame : Place → Type 0
  IsSame p = N p.name p.element ≡ M p.name p.element

  abbrev pub AreSame : List Place → Type 0
  AreSame ps = AllByRecursion IsSame ps

  front : (ps qs : List Place) → AreSame (ps ++ qs) → AreSame ps
  front ps qs h = front_of IsSame ps qs h

  back : (ps qs : List Place) → AreSame (ps ++ qs) → AreSame qs
  back ps qs h = back_of IsSame ps qs h

  -- ---- what stands on a line

  place_same : (o : Option Place) → AreSame (option_to_list o) → number_of N o ≡ number_of M o
  place_same None h = refl
  place_same (Some p) h = h.0

  item_same : (ρ : Indices) (i : Item) → AreSame (item_places ρ i) → item_number N ρ i ≡ item_number M ρ i
  item_same ρ i h = place_same (place_at ρ i) h

  items_same : (ρ : Indices) (is : List Item) → AreSame (items_places ρ is) → map (item_number N ρ) is ≡ map (item_number M ρ) is
  items_same ρ [] h = refl
  items_same ρ (i ∷ is) h =
      ap₂ ◌∷◌ (item_same ρ i (front (item_places ρ i) (items_places ρ is) h)) (items_same ρ is (back (item_places ρ i) (items_places ρ is) h))

  item_exp_same : (o : Option Sort) (v : ℕ) (ρ : Indices) (i : Item) (w : Width) → AreSame (operand_places o (item_places ρ i))
      → item_exp o v (item_number N ρ i) w ≡ item_exp o v (item_number M ρ i) w
  item_exp_same (Some (sort.Counter b n)) v ρ i w h = refl
  item_exp_same (Some (sort.Variable width)) v ρ i w h = ap variable (item_same ρ i h)
  item_exp_same (Some (sort.Channel width mark)) v ρ i w h = ap variable (item_same ρ i h)
  item_exp_same None v ρ i w h = ap variable (item_same ρ i h)

  said_same : (Γ : Sorts) (ρ : Indices) (e : Said) (w : Width) → AreSame (places_in Γ ρ e) → expression N Γ ρ e w ≡ expression M Γ ρ e w
  said_same Γ ρ (line.item i) w h = item_exp_same (sort_here Γ ρ i) (ρ i.name.0) ρ i w h
  said_same Γ ρ (line.numeral v) w h = refl
  said_same Γ ρ (line.typed v width) w h = refl
  said_same Γ ρ (line.truth b) w h = refl
  said_same Γ ρ (line.negation e) w h = ap negation (said_same Γ ρ e TruthValue h)
  said_same Γ ρ (line.complement e) w h = ap complement (said_same Γ ρ e w h)
  said_same Γ ρ (line.operation op left right) w h =
      let operands = unwrap_or (asks (class op) w (or_width (own Γ ρ left) (own Γ ρ right))) w in
      ap₂ (operation op) (said_same Γ ρ left operands (front (places_in Γ ρ left) (places_in Γ ρ right) h))
      (said_same Γ ρ right operands (back (places_in Γ ρ left) (places_in Γ ρ right) h))

  values_same : (Γ : Sorts) (ρ : Indices) (xs : List Item) (es : List Said) → AreSame (values_places Γ ρ xs es) → values N Γ ρ xs es ≡ values M Γ ρ xs es
  values_same Γ ρ [] es h = refl
  values_same Γ ρ (x ∷ xs) [] h = refl
  values_same Γ ρ (x ∷ xs) (e ∷ es) h =
      ap₂ ◌∷◌ (said_same Γ ρ e (unwrap_or (variable_here Γ ρ x) TruthValue) (front (places_in Γ ρ e) (values_places Γ ρ xs es) h))
      (values_same Γ ρ xs es (back (places_in Γ ρ e) (values_places Γ ρ xs es) h))

  waited_same : (Γ : Sorts) (ρ : Indices) (w : line.Waiting) → AreSame (waiting_places Γ ρ w) → waited N Γ ρ w ≡ waited M Γ ρ w
  waited_same Γ ρ line.ready h = refl
  waited_same Γ ρ (line.input c x) h =
      ap₂ input (item_same ρ c (front (item_places ρ c) (item_places ρ x) h)) (item_same ρ x (back (item_places ρ c) (item_places ρ x) h))
  waited_same Γ ρ (line.output c e) h =
      ap₂ output (item_same ρ c (front (item_places ρ c) (places_in Γ ρ e) h))
      (said_same Γ ρ e (unwrap_or (channel_here Γ ρ c) TruthValue) (back (item_places ρ c) (places_in Γ ρ e) h))

  -- ---- declarations

  all_same : (kind : Kind) (ps : List Place) → AreSame ps
      → map {B = Name × Kind} (λ (p : Place). (record { 0 = N p.name p.element }, kind)) ps
      ≡ map {B = Name × Kind} (λ (p : Place). (record { 0 = M p.name p.element }, kind)) ps
  all_same kind [] h = refl
  all_same kind (p ∷ ps) h = λ i. (record { 0 = h.0 i }, kind) ∷ all_same kind ps h.1 i

  declared_same : (kind : Kind) (ds : List Declared) → AreSame (all_places ds) → all_named N kind ds ≡ all_named M kind ds
  declared_same kind [] h = refl
  declared_same kind (d ∷ ds) h =
      ap₂ ◌++◌ (all_same kind (places d) (front (places d) (all_places ds) h)) (declared_same kind ds (back (places d) (all_places ds) h))

  pub params_same : (ps : List Param) → AreSame (params_places ps) → params_named N ps ≡ params_named M ps
  params_same [] h = refl
  params_same (p ∷ ps) h =
      ap₂ ◌++◌ (all_same p.kind (places p.declared) (front (places p.declared) (params_places ps) h)) (params_same ps (back (places p.declared) (params_places ps) h))

  -- ---- lines one below another

  record AreSameLines (L K : Lines) (E : Elements) : Type 0 where
    parts : (outer Γ : Sorts) (w : List (Name × Kind)) (ρ : Indices) → AreSame (E.parts outer Γ ρ) → L.parts outer Γ w ρ ≡ K.parts outer Γ w ρ
    first : (outer Γ : Sorts) (w : List (Name × Kind)) (ρ : Indices) → AreSame (E.first Γ ρ) → first_tree (L.parts outer Γ w ρ) ≡ first_tree (K.parts outer Γ w ρ)
    cases : (Γ : Sorts) (ρ : Indices) → AreSame (E.cases Γ ρ) → L.cases Γ ρ ≡ K.cases Γ ρ
    branches : (Γ : Sorts) (ρ : Indices) → AreSame (E.branches Γ ρ) → L.branches Γ ρ ≡ K.branches Γ ρ

  module _ {A : Type 0} (join : A → A → A) (none : A) (one two : Sorts → Indices → A) (ps : Sorts → Indices → List Place)
      (same : (Γ : Sorts) (ρ : Indices) → AreSame (ps Γ ρ) → one Γ ρ ≡ two Γ ρ) where
    copies_same : (times : Times) (Γ : Sorts) (ρ : Indices) (vs : List ℕ) → AreSame (copies (λ qs rs. qs ++ rs) [] times Γ ρ ps vs)
        → copies join none times Γ ρ one vs ≡ copies join none times Γ ρ two vs
    copies_same times Γ ρ [] h = refl
    copies_same times Γ ρ (v ∷ vs) h =
        let Δ = counter_of times ∷ Γ in
        let σ = with_index ρ times.index.0 v in
        let others = copies (λ qs rs. qs ++ rs) [] times Γ ρ ps vs in
        ap₂ join (same Δ σ (front (ps Δ σ) others h)) (copies_same times Γ ρ vs (back (ps Δ σ) others h))

    copied_same : (times : Option Times) (Γ : Sorts) (ρ : Indices) → AreSame (copied_places times Γ ρ ps)
        → copied join none times Γ ρ one ≡ copied join none times Γ ρ two
    copied_same None Γ ρ h = same Γ ρ h
    copied_same (Some times) Γ ρ h = copies_same times Γ ρ (numbers_from times.base times.count) h

  module _ (LB KB : Lines) (EB : Elements) (B : AreSameLines LB KB EB) where
    slot_same : (Γ : Sorts) (ρ : Indices) → AreSame (EB.first Γ ρ) → slot LB Γ ρ ≡ slot KB Γ ρ
    slot_same Γ ρ h = B.first Γ Γ [] ρ h

    slots_same : (Γ : Sorts) (ρ : Indices) → AreSame (as_slots EB Γ ρ) → as_parts LB Γ ρ ≡ as_parts KB Γ ρ
    slots_same Γ ρ h = B.parts Γ Γ [] ρ h

    construct_same : (g : Group) (times : Option Times) (Γ : Sorts) (ρ : Indices) → AreSame (construct_places g times EB Γ ρ)
        → construct g times LB Γ ρ ≡ construct g times KB Γ ρ
    construct_same word.Seq times Γ ρ h = ap seq (copied_same trees_then no_tree (as_parts LB) (as_parts KB) (as_slots EB) slots_same times Γ ρ h)
    construct_same word.Par times Γ ρ h = ap par (copied_same trees_then no_tree (as_parts LB) (as_parts KB) (as_slots EB) slots_same times Γ ρ h)
    construct_same word.If times Γ ρ h = ap select (copied_same cases_then no_case LB.cases KB.cases EB.cases B.cases times Γ ρ h)
    construct_same word.Alt times Γ ρ h = ap alt (copied_same branches_then no_branch LB.branches KB.branches EB.branches B.branches times Γ ρ h)

    process_same : (s : Shape) (Γ : Sorts) (ρ : Indices) → AreSame (process_places s EB Γ ρ) → process N s LB Γ ρ ≡ process M s KB Γ ρ
    process_same (line.header name params) Γ ρ h = refl
    process_same line.close Γ ρ h = refl
    process_same line.skip Γ ρ h = refl
    process_same line.stop Γ ρ h = refl
    process_same (line.assign xs es) Γ ρ h =
        ap₂ assign (items_same ρ xs (front (items_places ρ xs) (values_places Γ ρ xs es) h)) (values_same Γ ρ xs es (back (items_places ρ xs) (values_places Γ ρ xs es) h))
    process_same (line.receive c x) Γ ρ h =
        ap₂ receive (item_same ρ c (front (item_places ρ c) (item_places ρ x) h)) (item_same ρ x (back (item_places ρ c) (item_places ρ x) h))
    process_same (line.send c e) Γ ρ h =
        ap₂ send (item_same ρ c (front (item_places ρ c) (places_in Γ ρ e) h))
        (said_same Γ ρ e (unwrap_or (channel_here Γ ρ c) TruthValue) (back (item_places ρ c) (places_in Γ ρ e) h))
    process_same (line.group g times) Γ ρ h = construct_same g times Γ ρ h
    process_same (line.declare kind ds) Γ ρ h = refl
    process_same (line.condition e) Γ ρ h = refl
    process_same (line.guard e w) Γ ρ h = refl
    process_same line.nothing Γ ρ h = refl

    nested_cases_same : (g : Group) (times : Option Times) (Γ : Sorts) (ρ : Indices) → AreSame (nested_cases_places g times EB Γ ρ)
        → nested_cases g times LB Γ ρ ≡ nested_cases g times KB Γ ρ
    nested_cases_same word.Seq times Γ ρ h = refl
    nested_cases_same word.Par times Γ ρ h = refl
    nested_cases_same word.If times Γ ρ h = copied_same cases_then no_case LB.cases KB.cases EB.cases B.cases times Γ ρ h
    nested_cases_same word.Alt times Γ ρ h = refl

    nested_branches_same : (g : Group) (times : Option Times) (Γ : Sorts) (ρ : Indices) → AreSame (nested_branches_places g times EB Γ ρ)
        → nested_branches g times LB Γ ρ ≡ nested_branches g times KB Γ ρ
    nested_branches_same word.Seq times Γ ρ h = refl
    nested_branches_same word.Par times Γ ρ h = refl
    nested_branches_same word.If times Γ ρ h = refl
    nested_branches_same word.Alt times Γ ρ h = copied_same branches_then no_branch LB.branches KB.branches EB.branches B.branches times Γ ρ h

    module _ (LR KR : Lines) (ER : Elements) (R : AreSameLines LR KR ER) where
      -- a line that begins a process, and what comes behind it
      begun_same : (s : Shape) (outer Γ : Sorts) (w : List (Name × Kind)) (ρ : Indices) → AreSame (process_places s EB Γ ρ ++ ER.parts outer outer ρ)
          → and_tree (declaring_all w (process N s LB Γ ρ)) (LR.parts outer outer [] ρ) ≡ and_tree (declaring_all w (process M s KB Γ ρ)) (KR.parts outer outer [] ρ)
      begun_same s outer Γ w ρ h =
          ap₂ (λ p ps. and_tree (declaring_all w p) ps) (process_same s Γ ρ (front (process_places s EB Γ ρ) (ER.parts outer outer ρ) h))
          (R.parts outer outer [] ρ (back (process_places s EB Γ ρ) (ER.parts outer outer ρ) h))

      part_same : (s : Shape) (outer Γ : Sorts) (w : List (Name × Kind)) (ρ : Indices) → AreSame (parts_places s EB ER outer Γ ρ)
          → part_line N s LB LR outer Γ w ρ ≡ part_line M s KB KR outer Γ w ρ
      part_same (line.declare kind ds) outer Γ w ρ h =
          let Δ = declared_in Γ (entries_of kind ds) in
          ap (λ z. LR.parts outer Δ (w ++ z) ρ) (declared_same kind ds (front (all_places ds) (ER.parts outer Δ ρ) h))
          ∙ R.parts outer Δ (w ++ all_named M kind ds) ρ (back (all_places ds) (ER.parts outer Δ ρ) h)
      part_same (line.header name params) outer Γ w ρ h = begun_same (line.header name params) outer Γ w ρ h
      part_same line.close outer Γ w ρ h = begun_same line.close outer Γ w ρ h
      part_same line.skip outer Γ w ρ h = begun_same line.skip outer Γ w ρ h
      part_same line.stop outer Γ w ρ h = begun_same line.stop outer Γ w ρ h
      part_same (line.assign xs es) outer Γ w ρ h = begun_same (line.assign xs es) outer Γ w ρ h
      part_same (line.receive c x) outer Γ w ρ h = begun_same (line.receive c x) outer Γ w ρ h
      part_same (line.send c e) outer Γ w ρ h = begun_same (line.send c e) outer Γ w ρ h
      part_same (line.group g times) outer Γ w ρ h = begun_same (line.group g times) outer Γ w ρ h
      part_same (line.condition e) outer Γ w ρ h = begun_same (line.condition e) outer Γ w ρ h
      part_same (line.guard e wait) outer Γ w ρ h = begun_same (line.guard e wait) outer Γ w ρ h
      part_same line.nothing outer Γ w ρ h = begun_same line.nothing outer Γ w ρ h

      -- the first slot alone
      one_same : (s : Shape) (Γ : Sorts) (w : List (Name × Kind)) (ρ : Indices) → AreSame (process_places s EB Γ ρ)
          → declaring_all w (process N s LB Γ ρ) ≡ declaring_all w (process M s KB Γ ρ)
      one_same s Γ w ρ h = ap (declaring_all w) (process_same s Γ ρ h)

      first_same : (s : Shape) (outer Γ : Sorts) (w : List (Name × Kind)) (ρ : Indices) → AreSame (first_places s EB ER Γ ρ)
          → first_tree (part_line N s LB LR outer Γ w ρ) ≡ first_tree (part_line M s KB KR outer Γ w ρ)
      first_same (line.declare kind ds) outer Γ w ρ h =
          let Δ = declared_in Γ (entries_of kind ds) in
          ap (λ z. first_tree (LR.parts outer Δ (w ++ z) ρ)) (declared_same kind ds (front (all_places ds) (ER.first Δ ρ) h))
          ∙ R.first outer Δ (w ++ all_named M kind ds) ρ (back (all_places ds) (ER.first Δ ρ) h)
      first_same (line.header name params) outer Γ w ρ h = one_same (line.header name params) Γ w ρ h
      first_same line.close outer Γ w ρ h = one_same line.close Γ w ρ h
      first_same line.skip outer Γ w ρ h = one_same line.skip Γ w ρ h
      first_same line.stop outer Γ w ρ h = one_same line.stop Γ w ρ h
      first_same (line.assign xs es) outer Γ w ρ h = one_same (line.assign xs es) Γ w ρ h
      first_same (line.receive c x) outer Γ w ρ h = one_same (line.receive c x) Γ w ρ h
      first_same (line.send c e) outer Γ w ρ h = one_same (line.send c e) Γ w ρ h
      first_same (line.group g times) outer Γ w ρ h = one_same (line.group g times) Γ w ρ h
      first_same (line.condition e) outer Γ w ρ h = one_same (line.condition e) Γ w ρ h
      first_same (line.guard e wait) outer Γ w ρ h = one_same (line.guard e wait) Γ w ρ h
      first_same line.nothing outer Γ w ρ h = one_same line.nothing Γ w ρ h

      cases_same : (s : Shape) (Γ : Sorts) (ρ : Indices) → AreSame (case_places s EB Γ ρ ++ ER.cases Γ ρ) → case_line N s LB LR Γ ρ ≡ case_line M s KB KR Γ ρ
      cases_same (line.condition e) Γ ρ h =
          let here = places_in Γ ρ e in
          let both = front (here ++ EB.first Γ ρ) (ER.cases Γ ρ) h in
          let rest = R.cases Γ ρ (back (here ++ EB.first Γ ρ) (ER.cases Γ ρ) h) in
          let c = said_same Γ ρ e TruthValue (front here (EB.first Γ ρ) both) in
          let p = slot_same Γ ρ (back here (EB.first Γ ρ) both) in
          λ i. and_case (c i) (p i) (rest i)
      cases_same (line.group g times) Γ ρ h =
          let here = nested_cases_places g times EB Γ ρ in
          ap₂ cases_then (nested_cases_same g times Γ ρ (front here (ER.cases Γ ρ) h)) (R.cases Γ ρ (back here (ER.cases Γ ρ) h))
      cases_same (line.header name params) Γ ρ h = R.cases Γ ρ h
      cases_same line.close Γ ρ h = R.cases Γ ρ h
      cases_same line.skip Γ ρ h = R.cases Γ ρ h
      cases_same line.stop Γ ρ h = R.cases Γ ρ h
      cases_same (line.assign xs es) Γ ρ h = R.cases Γ ρ h
      cases_same (line.receive c x) Γ ρ h = R.cases Γ ρ h
      cases_same (line.send c e) Γ ρ h = R.cases Γ ρ h
      cases_same (line.declare kind ds) Γ ρ h = R.cases Γ ρ h
      cases_same (line.guard e wait) Γ ρ h = R.cases Γ ρ h
      cases_same line.nothing Γ ρ h = R.cases Γ ρ h

      -- a guard with its process
      guard_same : (b c : Exp) (v w : Waiting) (here : List Place) (Γ : Sorts) (ρ : Indices) → AreSame ((here ++ EB.first Γ ρ) ++ ER.branches Γ ρ)
          → (AreSame here → b ≡ c) → (AreSame here → v ≡ w) → and_branch b v (slot LB Γ ρ) (LR.branches Γ ρ) ≡ and_branch c w (slot KB Γ ρ) (KR.branches Γ ρ)
      guard_same b c v w here Γ ρ h f g =
          let both = front (here ++ EB.first Γ ρ) (ER.branches Γ ρ) h in
          let rest = R.branches Γ ρ (back (here ++ EB.first Γ ρ) (ER.branches Γ ρ) h) in
          let p = slot_same Γ ρ (back here (EB.first Γ ρ) both) in
          let own = front here (EB.first Γ ρ) both in
          λ i. and_branch (f own i) (g own i) (p i) (rest i)

      branches_same : (s : Shape) (Γ : Sorts) (ρ : Indices) → AreSame (branch_places s EB Γ ρ ++ ER.branches Γ ρ) → branch_line N s LB LR Γ ρ ≡ branch_line M s KB KR Γ ρ
      branches_same (line.receive c x) Γ ρ h =
          guard_same (truth true) (truth true) (waited N Γ ρ (line.input c x)) (waited M Γ ρ (line.input c x)) (waiting_places Γ ρ (line.input c x)) Γ ρ h
          (λ k. refl) (λ k. waited_same Γ ρ (line.input c x) k)
      branches_same (line.send c e) Γ ρ h =
          guard_same (truth true) (truth true) (waited N Γ ρ (line.output c e)) (waited M Γ ρ (line.output c e)) (waiting_places Γ ρ (line.output c e)) Γ ρ h
          (λ k. refl) (λ k. waited_same Γ ρ (line.output c e) k)
      branches_same (line.guard e w) Γ ρ h =
          guard_same (condition N Γ ρ e) (condition M Γ ρ e) (waited N Γ ρ w) (waited M Γ ρ w) (places_in Γ ρ e ++ waiting_places Γ ρ w) Γ ρ h
          (λ k. said_same Γ ρ e TruthValue (front (places_in Γ ρ e) (waiting_places Γ ρ w) k)) (λ k. waited_same Γ ρ w (back (places_in Γ ρ e) (waiting_places Γ ρ w) k))
      branches_same (line.group g times) Γ ρ h =
          let here = nested_branches_places g times EB Γ ρ in
          ap₂ branches_then (nested_branches_same g times Γ ρ (front here (ER.branches Γ ρ) h)) (R.branches Γ ρ (back here (ER.branches Γ ρ) h))
      branches_same (line.header name params) Γ ρ h = R.branches Γ ρ h
      branches_same line.close Γ ρ h = R.branches Γ ρ h
      branches_same line.skip Γ ρ h = R.branches Γ ρ h
      branches_same line.stop Γ ρ h = R.branches Γ ρ h
      branches_same (line.assign xs es) Γ ρ h = R.branches Γ ρ h
      branches_same (line.declare kind ds) Γ ρ h = R.branches Γ ρ h
      branches_same (line.condition e) Γ ρ h = R.branches Γ ρ h
      branches_same line.nothing Γ ρ h = R.branches Γ ρ h

      both_same : (s : Shape) → AreSameLines (and_lines N s LB LR) (and_lines M s KB KR) (and_elements s EB ER)
      both_same s = record {
        parts = λ outer Γ w ρ h. part_same s outer Γ w ρ h;
        first = λ outer Γ w ρ h. first_same s outer Γ w ρ h;
        cases = λ Γ ρ h. cases_same s Γ ρ h;
        branches = λ Γ ρ h. branches_same s Γ ρ h;
      }

  lines_same : (f : Forest) → AreSameLines (unrolled N f) (unrolled M f) (elements f)
  lines_same no_line = record { parts = λ outer Γ w ρ h. refl; first = λ outer Γ w ρ h. refl; cases = λ Γ ρ h. refl; branches = λ Γ ρ h. refl }
  lines_same (and_line number s below rest) =
      both_same (unrolled N below) (unrolled M below) (elements below) (lines_same below) (unrolled N rest) (unrolled M rest) (elements rest) (lines_same rest) s

  pub process_of_lines : (Γ : Sorts) (f : Forest) → AreSame ((elements f).first Γ (λ i. 0)) → slot_process N Γ f ≡ slot_process M Γ f
  process_of_lines Γ f h = (lines_same f).first Γ Γ [] (λ i. 0) h
