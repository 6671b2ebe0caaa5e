-- Lines under other names speak of the same places under other names.
use Rattle.std.proofs.Common.{◌≡◌, ℕ, zero, suc, ◌+◌, List, [], ◌∷◌, ◌++◌, Option, Some, None, refl, sym, ap, ap₂, ◌∙◌}
use Rattle.std.proofs.lemmas.List.{map-append}
use Rattle.std.specs.Prelude.{option_to_list}
use Rattle.occ_replay_rules.specs.occ_parse_forms.declared.form.Declared.{Declared}
use Rattle.occ_replay_rules.specs.occ_parse_forms.declared.form.Declared.TheVariants as declared
use Rattle.occ_replay_rules.specs.occ_parse_forms.declared.form.Group.{Group}
use Rattle.occ_replay_rules.specs.occ_parse_forms.declared.form.Group.TheVariants as word
use Rattle.occ_replay_rules.specs.occ_parse_forms.declared.form.Item.{Item}
use Rattle.occ_replay_rules.specs.occ_parse_forms.declared.form.Param.{Param}
use Rattle.occ_replay_rules.specs.occ_parse_forms.declared.form.Times.{Times}
use Rattle.occ_replay_rules.specs.occ_parse_forms.Shape.{Said, Shape}
use Rattle.occ_replay_rules.specs.occ_parse_forms.Shape as line
use Rattle.occ_renamed.specs.Renamed.{all_declared_renamed, all_said_renamed, declared_renamed, forest_renamed, item_renamed, items_renamed, params_renamed, place_renamed, places_renamed, said_renamed, shape_renamed, sorts_renamed, times_renamed, waits_renamed}
use Rattle.occ_renamed.specs.Standing.{IsOneForOne}
use Rattle.occ_renamed.proofs.Scopes.{HaveSame, declared_scope, found_renamed, index_same, item_place, params_scope, sort_here_same}
use Rattle.occ_replay_rules.specs.occ_parse_rules.declared.sort.Sort.{Sort}
use Rattle.occ_replay_rules.specs.occ_parse_rules.declared.sort.Sort.TheVariants as sort
use Rattle.occ_replay_rules.specs.occ_parse_rules.Forest.{Forest, no_line, and_line}
use Rattle.occ_replay_rules.specs.occ_parse_rules.Places.{Indices, Place, Sorts, counter_of, declared_in, elements_from, entries_of, numbers_from, param_entries, place_at, places, with_index}
use Rattle.occ_replay_rules.specs.occ_parse_rules.Types.{sort_here}
use Rattle.occ_replay_rules.specs.occ_parse_rules.Unrolled.{copies}
use Rattle.occ_replay_rules.specs.occ_parse_unroll.Elements.{Elements, all_places, and_elements, as_slots, branch_places, case_places, construct_places, copied_places, elements, first_places, item_places, items_places, nested_branches_places, nested_cases_places, operand_places, params_places, parts_places, places_in, process_places, program_places, values_places, waiting_places}

module _ (f : ℕ → ℕ) (one : IsOneForOne f) where
  abbrev Ren : List Place → List Place
  Ren ps = places_renamed f ps

  -- places in two lists
  join : (ps qs ps' qs' : List Place) → ps' ≡ Ren ps → qs' ≡ Ren qs → ps' ++ qs' ≡ Ren (ps ++ qs)
  join ps qs ps' qs' h k = ap₂ ◌++◌ h k ∙ sym (map-append (place_renamed f) ps qs)

  -- ---- declarations

  elements_renamed : (x k n : ℕ) → elements_from (f x) k n ≡ Ren (elements_from x k n)
  elements_renamed x k zero = refl
  elements_renamed x k (suc n) = ap (λ ps. record { name = f x; element = Some k } ∷ ps) (elements_renamed x (k + 1) n)

  pub places_of_renamed : (d : Declared) → places (declared_renamed f d) ≡ Ren (places d)
  places_of_renamed (declared.Plain x) = refl
  places_of_renamed (declared.Element x k) = refl
  places_of_renamed (declared.Array x n) = elements_renamed x.0 0 n

  pub all_places_renamed : (ds : List Declared) → all_places (all_declared_renamed f ds) ≡ Ren (all_places ds)
  all_places_renamed [] = refl
  all_places_renamed (d ∷ ds) =
      join (places d) (all_places ds) (places (declared_renamed f d)) (all_places (all_declared_renamed f ds)) (places_of_renamed d) (all_places_renamed ds)

  pub params_places_renamed : (ps : List Param) → params_places (params_renamed f ps) ≡ Ren (params_places ps)
  params_places_renamed [] = refl
  params_places_renamed (p ∷ ps) =
      join (places p.declared) (params_places ps) (places (declared_renamed f p.declared)) (params_places (params_renamed f ps))
      (places_of_renamed p.declared) (params_places_renamed ps)

  -- ---- what stands on a line

  listed : (o : Option Place) → option_to_list (found_renamed f o) ≡ Ren (option_to_list o)
  listed None = refl
  listed (Some p) = refl

  operand_renamed : (o : Option Sort) (ps : List Place) → operand_places o (Ren ps) ≡ Ren (operand_places o ps)
  operand_renamed (Some (sort.Counter b n)) ps = refl
  operand_renamed (Some (sort.Variable width)) ps = refl
  operand_renamed (Some (sort.Channel width mark)) ps = refl
  operand_renamed None ps = refl

  module _ (ρ σ : Indices) (h : HaveSame f ρ σ) where
    item_same : (i : Item) → item_places σ (item_renamed f i) ≡ Ren (item_places ρ i)
    item_same i = ap (λ o. option_to_list o) (item_place f one ρ σ h i) ∙ listed (place_at ρ i)

    items_same : (is : List Item) → items_places σ (items_renamed f is) ≡ Ren (items_places ρ is)
    items_same [] = refl
    items_same (i ∷ is) =
        join (item_places ρ i) (items_places ρ is) (item_places σ (item_renamed f i)) (items_places σ (items_renamed f is)) (item_same i) (items_same is)

    said_same : (Γ : Sorts) (e : Said) → places_in (sorts_renamed f Γ) σ (said_renamed f e) ≡ Ren (places_in Γ ρ e)
    said_same Γ (line.item i) =
        ap₂ operand_places (sort_here_same f one ρ σ h Γ i) (item_same i) ∙ operand_renamed (sort_here Γ ρ i) (item_places ρ i)
    said_same Γ (line.numeral v) = refl
    said_same Γ (line.typed v width) = refl
    said_same Γ (line.truth b) = refl
    said_same Γ (line.negation e) = said_same Γ e
    said_same Γ (line.complement e) = said_same Γ e
    said_same Γ (line.operation op left right) =
        join (places_in Γ ρ left) (places_in Γ ρ right) (places_in (sorts_renamed f Γ) σ (said_renamed f left)) (places_in (sorts_renamed f Γ) σ (said_renamed f right))
        (said_same Γ left) (said_same Γ right)

    values_same : (Γ : Sorts) (xs : List Item) (es : List Said)
        → values_places (sorts_renamed f Γ) σ (items_renamed f xs) (all_said_renamed f es) ≡ Ren (values_places Γ ρ xs es)
    values_same Γ [] es = refl
    values_same Γ (x ∷ xs) [] = refl
    values_same Γ (x ∷ xs) (e ∷ es) =
        join (places_in Γ ρ e) (values_places Γ ρ xs es) (places_in (sorts_renamed f Γ) σ (said_renamed f e))
        (values_places (sorts_renamed f Γ) σ (items_renamed f xs) (all_said_renamed f es)) (said_same Γ e) (values_same Γ xs es)

    two_same : (c x : Item) → item_places σ (item_renamed f c) ++ item_places σ (item_renamed f x) ≡ Ren (item_places ρ c ++ item_places ρ x)
    two_same c x = join (item_places ρ c) (item_places ρ x) (item_places σ (item_renamed f c)) (item_places σ (item_renamed f x)) (item_same c) (item_same x)

    sent_same : (Γ : Sorts) (c : Item) (e : Said)
        → item_places σ (item_renamed f c) ++ places_in (sorts_renamed f Γ) σ (said_renamed f e) ≡ Ren (item_places ρ c ++ places_in Γ ρ e)
    sent_same Γ c e =
        join (item_places ρ c) (places_in Γ ρ e) (item_places σ (item_renamed f c)) (places_in (sorts_renamed f Γ) σ (said_renamed f e)) (item_same c) (said_same Γ e)

    waiting_same : (Γ : Sorts) (w : line.Waiting) → waiting_places (sorts_renamed f Γ) σ (waits_renamed f w) ≡ Ren (waiting_places Γ ρ w)
    waiting_same Γ line.ready = refl
    waiting_same Γ (line.input c x) = two_same c x
    waiting_same Γ (line.output c e) = sent_same Γ c e

  -- ---- lines one below another

  record AreSame (E F : Elements) : Type 0 where
    parts : (outer Γ : Sorts) (ρ σ : Indices) → HaveSame f ρ σ → F.parts (sorts_renamed f outer) (sorts_renamed f Γ) σ ≡ Ren (E.parts outer Γ ρ)
    first : (Γ : Sorts) (ρ σ : Indices) → HaveSame f ρ σ → F.first (sorts_renamed f Γ) σ ≡ Ren (E.first Γ ρ)
    cases : (Γ : Sorts) (ρ σ : Indices) → HaveSame f ρ σ → F.cases (sorts_renamed f Γ) σ ≡ Ren (E.cases Γ ρ)
    branches : (Γ : Sorts) (ρ σ : Indices) → HaveSame f ρ σ → F.branches (sorts_renamed f Γ) σ ≡ Ren (E.branches Γ ρ)

  module _ (ps qs : Sorts → Indices → List Place)
      (same : (Γ : Sorts) (ρ σ : Indices) → HaveSame f ρ σ → qs (sorts_renamed f Γ) σ ≡ Ren (ps Γ ρ)) where
    abbrev all_of : Times → Sorts → Indices → (Sorts → Indices → List Place) → List ℕ → List Place
    all_of times Γ ρ rs vs = copies (λ us ws. us ++ ws) [] times Γ ρ rs vs

    copies_same : (times : Times) (Γ : Sorts) (ρ σ : Indices) → HaveSame f ρ σ → (vs : List ℕ)
        → all_of (record { index = record { 0 = f times.index.0 }; base = times.base; count = times.count }) (sorts_renamed f Γ) σ qs vs ≡ Ren (all_of times Γ ρ ps vs)
    copies_same times Γ ρ σ h [] = refl
    copies_same times Γ ρ σ h (v ∷ vs) =
        let other : Times = record { index = record { 0 = f times.index.0 }; base = times.base; count = times.count } in
        let Δ = counter_of times ∷ Γ in
        let inner = with_index ρ times.index.0 v in
        let outer = with_index σ (f times.index.0) v in
        join (ps Δ inner) (all_of times Γ ρ ps vs) (qs (sorts_renamed f Δ) outer) (all_of other (sorts_renamed f Γ) σ qs vs)
        (same Δ inner outer (index_same f one ρ σ h times.index.0 v)) (copies_same times Γ ρ σ h vs)

    copied_same : (times : Option Times) (Γ : Sorts) (ρ σ : Indices) → HaveSame f ρ σ
        → copied_places (times_renamed f times) (sorts_renamed f Γ) σ qs ≡ Ren (copied_places times Γ ρ ps)
    copied_same None Γ ρ σ h = same Γ ρ σ h
    copied_same (Some times) Γ ρ σ h = copies_same times Γ ρ σ h (numbers_from times.base times.count)

  module _ (E F : Elements) (B : AreSame E F) where
    slots_same : (Γ : Sorts) (ρ σ : Indices) → HaveSame f ρ σ → as_slots F (sorts_renamed f Γ) σ ≡ Ren (as_slots E Γ ρ)
    slots_same Γ ρ σ h = B.parts Γ Γ ρ σ h

    construct_same : (g : Group) (times : Option Times) (Γ : Sorts) (ρ σ : Indices) → HaveSame f ρ σ
        → construct_places g (times_renamed f times) F (sorts_renamed f Γ) σ ≡ Ren (construct_places g times E Γ ρ)
    construct_same word.Seq times Γ ρ σ h = copied_same (as_slots E) (as_slots F) slots_same times Γ ρ σ h
    construct_same word.Par times Γ ρ σ h = copied_same (as_slots E) (as_slots F) slots_same times Γ ρ σ h
    construct_same word.If times Γ ρ σ h = copied_same E.cases F.cases B.cases times Γ ρ σ h
    construct_same word.Alt times Γ ρ σ h = copied_same E.branches F.branches B.branches times Γ ρ σ h

    process_same : (s : Shape) (Γ : Sorts) (ρ σ : Indices) → HaveSame f ρ σ
        → process_places (shape_renamed f s) F (sorts_renamed f Γ) σ ≡ Ren (process_places s E Γ ρ)
    process_same (line.header name params) Γ ρ σ h = refl
    process_same line.close Γ ρ σ h = refl
    process_same line.skip Γ ρ σ h = refl
    process_same line.stop Γ ρ σ h = refl
    process_same (line.assign xs es) Γ ρ σ h =
        join (items_places ρ xs) (values_places Γ ρ xs es) (items_places σ (items_renamed f xs))
        (values_places (sorts_renamed f Γ) σ (items_renamed f xs) (all_said_renamed f es)) (items_same ρ σ h xs) (values_same ρ σ h Γ xs es)
    process_same (line.receive c x) Γ ρ σ h = two_same ρ σ h c x
    process_same (line.send c e) Γ ρ σ h = sent_same ρ σ h Γ c e
    process_same (line.group g times) Γ ρ σ h = construct_same g times Γ ρ σ h
    process_same (line.declare kind ds) Γ ρ σ h = refl
    process_same (line.condition e) Γ ρ σ h = refl
    process_same (line.guard e w) Γ ρ σ h = refl
    process_same line.nothing Γ ρ σ h = refl

    nested_cases_same : (g : Group) (times : Option Times) (Γ : Sorts) (ρ σ : Indices) → HaveSame f ρ σ
        → nested_cases_places g (times_renamed f times) F (sorts_renamed f Γ) σ ≡ Ren (nested_cases_places g times E Γ ρ)
    nested_cases_same word.Seq times Γ ρ σ h = refl
    nested_cases_same word.Par times Γ ρ σ h = refl
    nested_cases_same word.If times Γ ρ σ h = copied_same E.cases F.cases B.cases times Γ ρ σ h
    nested_cases_same word.Alt times Γ ρ σ h = refl

    nested_branches_same : (g : Group) (times : Option Times) (Γ : Sorts) (ρ σ : Indices) → HaveSame f ρ σ
        → nested_branches_places g (times_renamed f times) F (sorts_renamed f Γ) σ ≡ Ren (nested_branches_places g times E Γ ρ)
    nested_branches_same word.Seq times Γ ρ σ h = refl
    nested_branches_same word.Par times Γ ρ σ h = refl
    nested_branches_same word.If times Γ ρ σ h = refl
    nested_branches_same word.Alt times Γ ρ σ h = copied_same E.branches F.branches B.branches times Γ ρ σ h

    case_same : (s : Shape) (Γ : Sorts) (ρ σ : Indices) → HaveSame f ρ σ
        → case_places (shape_renamed f s) F (sorts_renamed f Γ) σ ≡ Ren (case_places s E Γ ρ)
    case_same (line.condition e) Γ ρ σ h =
        join (places_in Γ ρ e) (E.first Γ ρ) (places_in (sorts_renamed f Γ) σ (said_renamed f e)) (F.first (sorts_renamed f Γ) σ) (said_same ρ σ h Γ e) (B.first Γ ρ σ h)
    case_same (line.group g times) Γ ρ σ h = nested_cases_same g times Γ ρ σ h
    case_same (line.header name params) Γ ρ σ h = refl
    case_same line.close Γ ρ σ h = refl
    case_same line.skip Γ ρ σ h = refl
    case_same line.stop Γ ρ σ h = refl
    case_same (line.assign xs es) Γ ρ σ h = refl
    case_same (line.receive c x) Γ ρ σ h = refl
    case_same (line.send c e) Γ ρ σ h = refl
    case_same (line.declare kind ds) Γ ρ σ h = refl
    case_same (line.guard e w) Γ ρ σ h = refl
    case_same line.nothing Γ ρ σ h = refl

    -- a guard's places in front of those of its process
    guarded_same : (us us' : List Place) (Γ : Sorts) (ρ σ : Indices) → HaveSame f ρ σ → us' ≡ Ren us
        → us' ++ F.first (sorts_renamed f Γ) σ ≡ Ren (us ++ E.first Γ ρ)
    guarded_same us us' Γ ρ σ h k = join us (E.first Γ ρ) us' (F.first (sorts_renamed f Γ) σ) k (B.first Γ ρ σ h)

    branch_same : (s : Shape) (Γ : Sorts) (ρ σ : Indices) → HaveSame f ρ σ
        → branch_places (shape_renamed f s) F (sorts_renamed f Γ) σ ≡ Ren (branch_places s E Γ ρ)
    branch_same (line.receive c x) Γ ρ σ h =
        guarded_same (item_places ρ c ++ item_places ρ x) (item_places σ (item_renamed f c) ++ item_places σ (item_renamed f x)) Γ ρ σ h (two_same ρ σ h c x)
    branch_same (line.send c e) Γ ρ σ h =
        guarded_same (item_places ρ c ++ places_in Γ ρ e) (item_places σ (item_renamed f c) ++ places_in (sorts_renamed f Γ) σ (said_renamed f e)) Γ ρ σ h
        (sent_same ρ σ h Γ c e)
    branch_same (line.guard e w) Γ ρ σ h =
        guarded_same (places_in Γ ρ e ++ waiting_places Γ ρ w)
        (places_in (sorts_renamed f Γ) σ (said_renamed f e) ++ waiting_places (sorts_renamed f Γ) σ (waits_renamed f w)) Γ ρ σ h
        (join (places_in Γ ρ e) (waiting_places Γ ρ w) (places_in (sorts_renamed f Γ) σ (said_renamed f e)) (waiting_places (sorts_renamed f Γ) σ (waits_renamed f w))
        (said_same ρ σ h Γ e) (waiting_same ρ σ h Γ w))
    branch_same (line.group g times) Γ ρ σ h = nested_branches_same g times Γ ρ σ h
    branch_same (line.header name params) Γ ρ σ h = refl
    branch_same line.close Γ ρ σ h = refl
    branch_same line.skip Γ ρ σ h = refl
    branch_same line.stop Γ ρ σ h = refl
    branch_same (line.assign xs es) Γ ρ σ h = refl
    branch_same (line.declare kind ds) Γ ρ σ h = refl
    branch_same (line.condition e) Γ ρ σ h = refl
    branch_same line.nothing Γ ρ σ h = refl

    module _ (G H : Elements) (R : AreSame G H) where
      begun_same : (s : Shape) (outer Γ : Sorts) (ρ σ : Indices) → HaveSame f ρ σ
          → process_places (shape_renamed f s) F (sorts_renamed f Γ) σ ++ H.parts (sorts_renamed f outer) (sorts_renamed f outer) σ
          ≡ Ren (process_places s E Γ ρ ++ G.parts outer outer ρ)
      begun_same s outer Γ ρ σ h =
          join (process_places s E Γ ρ) (G.parts outer outer ρ) (process_places (shape_renamed f s) F (sorts_renamed f Γ) σ)
          (H.parts (sorts_renamed f outer) (sorts_renamed f outer) σ) (process_same s Γ ρ σ h) (R.parts outer outer ρ σ h)

      parts_same : (s : Shape) (outer Γ : Sorts) (ρ σ : Indices) → HaveSame f ρ σ
          → parts_places (shape_renamed f s) F H (sorts_renamed f outer) (sorts_renamed f Γ) σ ≡ Ren (parts_places s E G outer Γ ρ)
      parts_same (line.declare kind ds) outer Γ ρ σ h =
          let Δ = declared_in Γ (entries_of kind ds) in
          let Δ' = declared_in (sorts_renamed f Γ) (entries_of kind (all_declared_renamed f ds)) in
          join (all_places ds) (G.parts outer Δ ρ) (all_places (all_declared_renamed f ds)) (H.parts (sorts_renamed f outer) Δ' σ) (all_places_renamed ds)
          (ap (λ Ω. H.parts (sorts_renamed f outer) Ω σ) (declared_scope f Γ kind ds) ∙ R.parts outer Δ ρ σ h)
      parts_same (line.header name params) outer Γ ρ σ h = begun_same (line.header name params) outer Γ ρ σ h
      parts_same line.close outer Γ ρ σ h = begun_same line.close outer Γ ρ σ h
      parts_same line.skip outer Γ ρ σ h = begun_same line.skip outer Γ ρ σ h
      parts_same line.stop outer Γ ρ σ h = begun_same line.stop outer Γ ρ σ h
      parts_same (line.assign xs es) outer Γ ρ σ h = begun_same (line.assign xs es) outer Γ ρ σ h
      parts_same (line.receive c x) outer Γ ρ σ h = begun_same (line.receive c x) outer Γ ρ σ h
      parts_same (line.send c e) outer Γ ρ σ h = begun_same (line.send c e) outer Γ ρ σ h
      parts_same (line.group g times) outer Γ ρ σ h = begun_same (line.group g times) outer Γ ρ σ h
      parts_same (line.condition e) outer Γ ρ σ h = begun_same (line.condition e) outer Γ ρ σ h
      parts_same (line.guard e w) outer Γ ρ σ h = begun_same (line.guard e w) outer Γ ρ σ h
      parts_same line.nothing outer Γ ρ σ h = begun_same line.nothing outer Γ ρ σ h

      first_same : (s : Shape) (Γ : Sorts) (ρ σ : Indices) → HaveSame f ρ σ
          → first_places (shape_renamed f s) F H (sorts_renamed f Γ) σ ≡ Ren (first_places s E G Γ ρ)
      first_same (line.declare kind ds) Γ ρ σ h =
          let Δ = declared_in Γ (entries_of kind ds) in
          let Δ' = declared_in (sorts_renamed f Γ) (entries_of kind (all_declared_renamed f ds)) in
          join (all_places ds) (G.first Δ ρ) (all_places (all_declared_renamed f ds)) (H.first Δ' σ) (all_places_renamed ds)
          (ap (λ Ω. H.first Ω σ) (declared_scope f Γ kind ds) ∙ R.first Δ ρ σ h)
      first_same (line.header name params) Γ ρ σ h = process_same (line.header name params) Γ ρ σ h
      first_same line.close Γ ρ σ h = process_same line.close Γ ρ σ h
      first_same line.skip Γ ρ σ h = process_same line.skip Γ ρ σ h
      first_same line.stop Γ ρ σ h = process_same line.stop Γ ρ σ h
      first_same (line.assign xs es) Γ ρ σ h = process_same (line.assign xs es) Γ ρ σ h
      first_same (line.receive c x) Γ ρ σ h = process_same (line.receive c x) Γ ρ σ h
      first_same (line.send c e) Γ ρ σ h = process_same (line.send c e) Γ ρ σ h
      first_same (line.group g times) Γ ρ σ h = process_same (line.group g times) Γ ρ σ h
      first_same (line.condition e) Γ ρ σ h = process_same (line.condition e) Γ ρ σ h
      first_same (line.guard e w) Γ ρ σ h = process_same (line.guard e w) Γ ρ σ h
      first_same line.nothing Γ ρ σ h = process_same line.nothing Γ ρ σ h

      both_same : (s : Shape) → AreSame (and_elements s E G) (and_elements (shape_renamed f s) F H)
      both_same s = record {
        parts = λ outer Γ ρ σ h. parts_same s outer Γ ρ σ h;
        first = λ Γ ρ σ h. first_same s Γ ρ σ h;
        cases = λ Γ ρ σ h. join (case_places s E Γ ρ) (G.cases Γ ρ) (case_places (shape_renamed f s) F (sorts_renamed f Γ) σ) (H.cases (sorts_renamed f Γ) σ)
            (case_same s Γ ρ σ h) (R.cases Γ ρ σ h);
        branches = λ Γ ρ σ h. join (branch_places s E Γ ρ) (G.branches Γ ρ) (branch_places (shape_renamed f s) F (sorts_renamed f Γ) σ) (H.branches (sorts_renamed f Γ) σ)
            (branch_same s Γ ρ σ h) (R.branches Γ ρ σ h);
      }

  lines_same : (g : Forest) → AreSame (elements g) (elements (forest_renamed f g))
  lines_same no_line = record { parts = λ outer Γ ρ σ h. refl; first = λ Γ ρ σ h. refl; cases = λ Γ ρ σ h. refl; branches = λ Γ ρ σ h. refl }
  lines_same (and_line number s below rest) =
      both_same (elements below) (elements (forest_renamed f below)) (lines_same below) (elements rest) (elements (forest_renamed f rest)) (lines_same rest) s

  pub program_same : (ps : List Param) (below : Forest) → program_places (params_renamed f ps) (forest_renamed f below) ≡ Ren (program_places ps below)
  program_same ps below =
      let Γ = declared_in [] (param_entries ps) in
      let inner = (elements below).first Γ (λ i. 0) in
      let other = (elements (forest_renamed f below)).first (declared_in [] (param_entries (params_renamed f ps))) (λ i. 0) in
      join (params_places ps) inner (params_places (params_renamed f ps)) other (params_places_renamed ps)
      (ap (λ Δ. (elements (forest_renamed f below)).first Δ (λ i. 0)) (params_scope f [] ps) ∙ (lines_same below).first Γ (λ i. 0) (λ i. 0) (λ x. refl))
