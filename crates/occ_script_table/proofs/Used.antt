-- The places that a line without a fault uses stand in its scope.
use Rattle.std.proofs.Common.{◌≡◌, Bool, true, false, not, ◌||◌, List, [], ◌∷◌, ◌++◌, Option, Some, None, is_none, refl, subst, ℕ}
use Rattle.std.specs.Prelude.{option_to_list}
use Rattle.std.specs.List.{AllByRecursion, list_any}
use Rattle.std.proofs.lemmas.Bool.{not-false, or_parts}
use Rattle.occ_script_back.proofs.from_meaning.Facts.{and_second, true_not_false}
use Rattle.occ_script_back.specs.occ_parse_forms.declared.form.Item.{Item}
use Rattle.occ_script_back.specs.occ_parse_forms.declared.phrase.Index.{Index}
use Rattle.occ_script_back.specs.occ_parse_forms.Shape.{Said, Shape, Waiting}
use Rattle.occ_script_back.specs.occ_parse_forms.Shape as line
use Rattle.occ_script_back.specs.occ_parse_rules.declared.fault.NameFault.TheVariants as name
use Rattle.occ_script_back.specs.occ_parse_rules.declared.fault.TypeFault.TheVariants as type
use Rattle.occ_script_back.specs.occ_parse_rules.declared.sort.Sort.{Sort}
use Rattle.occ_script_back.specs.occ_parse_rules.declared.sort.Sort.TheVariants as sort
use Rattle.occ_script_back.specs.occ_parse_rules.Names.{index_counts, is_outside, is_undeclared, is_undeclared_at, items_in, items_in_all, items_of_waiting, left_items, name_fault, redeclares, some_meet, uses}
use Rattle.occ_script_back.specs.occ_parse_rules.Places.{Place, Sorts, Indices, for_some, place_at, place_with, sort_at, sort_of_place}
use Rattle.occ_script_back.specs.occ_parse_rules.Types.{has_lost, line_clashes, sort_here, type_fault}
use Rattle.occ_script_back.proofs.from_parse_rules.Facts.{if_none}
use Rattle.occ_script_back.specs.occ_parse_unroll.Elements.{item_places, items_places, operand_places, places_in, values_places, waiting_places}
use Rattle.occ_script_back.proofs.from_print.Lists.{all-back, all-front}
use Rattle.occ_script_table.proofs.Scoped.{AllFit, IsFit, both_fit, in_scope}

some_of : {A : Type 0} (o : Option A) → is_none o ≡ false → (a : A) × (o ≡ Some a)
some_of None h = true_not_false h
some_of (Some a) h = (a, refl)

-- the names and the types of a line are in order
abbrev pub LineInOrder : Sorts → Shape → Type 0
LineInOrder Γ s = (name_fault Γ s ≡ None) × (type_fault Γ s ≡ None)

module _ (test : ℕ → Bool) (Γ : Sorts) (ρ : Indices) (scope : IsFit test Γ ρ) where
  -- ---- items

  placed : (o : Option Place) → is_none (sort_of_place Γ o) ≡ false → AllFit test (option_to_list o)
  placed None h = true_not_false h
  placed (Some p) h = let s = some_of (sort_at Γ p.name p.element) h in (in_scope test Γ ρ scope p.name p.element s.0 s.1, tt)

  -- no index at all, or an index that counts and is within for each of its values
  at_index : (i : Item) (o : Option Index) → i.index ≡ o → is_undeclared_at Γ i.name.0 o ≡ false
      → (index_counts Γ o ≡ true → is_none (sort_of_place Γ (place_at ρ i)) ≡ false) → (is_none o || index_counts Γ o) ≡ true
      → AllFit test (option_to_list (place_with ρ i.name.0 o))
  at_index i None e declared within settled = placed (place_with ρ i.name.0 None) declared
  at_index i (Some k) e declared within settled =
      placed (place_with ρ i.name.0 (Some k)) (subst (λ o. is_none (sort_of_place Γ (place_with ρ i.name.0 o)) ≡ false) e (within settled))

  abbrev pub ItemFits : Item → Type 0
  ItemFits i = AllFit test (item_places ρ i)

  abbrev pub ItemsFit : List Item → Type 0
  ItemsFit is = AllByRecursion ItemFits is

  item_fits : (i : Item) → is_undeclared Γ i ≡ false → is_outside Γ i ≡ false → not (is_none i.index || index_counts Γ i.index) ≡ false → ItemFits i
  item_fits i declared inside settled =
      at_index i i.index refl declared
      (λ counts. scope.taken (λ σ. is_none (sort_of_place Γ (place_at σ i))) (and_second (index_counts Γ i.index) (for_some Γ (λ σ. is_none (sort_of_place Γ (place_at σ i)))) inside counts))
      (not-false (is_none i.index || index_counts Γ i.index) settled)

  items_fit : (is : List Item) → list_any (is_undeclared Γ) is ≡ false → list_any (is_outside Γ) is ≡ false
      → list_any (λ i. not (is_none i.index || index_counts Γ i.index)) is ≡ false → ItemsFit is
  items_fit [] a b c = tt
  items_fit (i ∷ is) a b c =
      let declared = or_parts (is_undeclared Γ i) (list_any (is_undeclared Γ) is) a in
      let inside = or_parts (is_outside Γ i) (list_any (is_outside Γ) is) b in
      let settled = or_parts (not (is_none i.index || index_counts Γ i.index)) (list_any (λ j. not (is_none j.index || index_counts Γ j.index)) is) c in
      (item_fits i declared.0 inside.0 settled.0, items_fit is declared.1 inside.1 settled.1)

  -- the items that a line in order uses
  pub used : (s : Shape) → LineInOrder Γ s → ItemsFit (uses s)
  used s h =
      let first = if_none (list_any (is_undeclared Γ) (uses s)) name.Undeclared _ h.0 in
      let second = if_none (redeclares Γ s) name.Redeclared _ first.1 in
      let third = if_none (list_any (is_outside Γ) (uses s) || some_meet Γ (left_items s)) name.Index None second.1 in
      let types = if_none (has_lost Γ s || for_some Γ (λ σ. line_clashes Γ σ s)) type.TypeClash _ h.1 in
      items_fit (uses s) first.0 (or_parts (list_any (is_outside Γ) (uses s)) (some_meet Γ (left_items s)) third.0).0 (or_parts (has_lost Γ s) (for_some Γ (λ σ. line_clashes Γ σ s)) types.0).0

  front : (is js : List Item) → ItemsFit (is ++ js) → ItemsFit is
  front is js h = all-front ItemFits is js h

  back : (is js : List Item) → ItemsFit (is ++ js) → ItemsFit js
  back is js h = all-back ItemFits is js h

  -- ---- what items stand in

  -- the places of items
  pub items_placed : (is : List Item) → ItemsFit is → AllFit test (items_places ρ is)
  items_placed [] h = tt
  items_placed (i ∷ is) h = both_fit test (item_places ρ i) (items_places ρ is) h.0 (items_placed is h.1)

  operand_fits : (o : Option Sort) (ps : List Place) → AllFit test ps → AllFit test (operand_places o ps)
  operand_fits (Some (sort.Counter b n)) ps h = tt
  operand_fits (Some (sort.Variable width)) ps h = h
  operand_fits (Some (sort.Channel width mark)) ps h = h
  operand_fits None ps h = h

  -- the places in an expression
  pub said_fits : (e : Said) → ItemsFit (items_in e) → AllFit test (places_in Γ ρ e)
  said_fits (line.item i) h = operand_fits (sort_here Γ ρ i) (item_places ρ i) h.0
  said_fits (line.numeral value) h = tt
  said_fits (line.typed value width) h = tt
  said_fits (line.truth b) h = tt
  said_fits (line.negation e) h = said_fits e h
  said_fits (line.complement e) h = said_fits e h
  said_fits (line.operation op left right) h =
      both_fit test (places_in Γ ρ left) (places_in Γ ρ right) (said_fits left (front (items_in left) (items_in right) h)) (said_fits right (back (items_in left) (items_in right) h))

  values_fit : (xs : List Item) (es : List Said) → ItemsFit (items_in_all es) → AllFit test (values_places Γ ρ xs es)
  values_fit [] es h = tt
  values_fit (x ∷ xs) [] h = tt
  values_fit (x ∷ xs) (e ∷ es) h =
      both_fit test (places_in Γ ρ e) (values_places Γ ρ xs es) (said_fits e (front (items_in e) (items_in_all es) h)) (values_fit xs es (back (items_in e) (items_in_all es) h))

  -- the places of an assignment
  pub assigned_fit : (xs : List Item) (es : List Said) → ItemsFit (xs ++ items_in_all es) → AllFit test (items_places ρ xs ++ values_places Γ ρ xs es)
  assigned_fit xs es h =
      both_fit test (items_places ρ xs) (values_places Γ ρ xs es) (items_placed xs (front xs (items_in_all es) h)) (values_fit xs es (back xs (items_in_all es) h))

  -- the places of an input or an output
  pub waiting_fits : (w : Waiting) → ItemsFit (items_of_waiting w) → AllFit test (waiting_places Γ ρ w)
  waiting_fits line.ready h = tt
  waiting_fits (line.input c x) h = both_fit test (item_places ρ c) (item_places ρ x) h.0 h.1.0
  waiting_fits (line.output c e) h = both_fit test (item_places ρ c) (places_in Γ ρ e) h.0 (said_fits e h.1)

  -- the places of a guard
  pub guard_fits : (e : Said) (w : Waiting) → ItemsFit (items_in e ++ items_of_waiting w) → AllFit test (places_in Γ ρ e ++ waiting_places Γ ρ w)
  guard_fits e w h =
      both_fit test (places_in Γ ρ e) (waiting_places Γ ρ w) (said_fits e (front (items_in e) (items_of_waiting w) h)) (waiting_fits w (back (items_in e) (items_of_waiting w) h))
