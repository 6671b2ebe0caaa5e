-- Two items with different names in their indices: they agree for all values only where each has one width.
use Rattle.std.proofs.Common.{◌≡◌, ℕ, zero, suc, ◌≤◌, Bool, true, false, not, ◌||◌, List, Option, Some, None, is_some, refl, sym, ap, ◌∙◌, subst, inl, inr, arith}
use Rattle.std.specs.List.{list_any}
use Rattle.std.proofs.lemmas.Bool.{both_ways, cases_Bool, false_from_ne_true, not-false, or_left}
use Rattle.occ_syntax.specs.occ_base.declared.width.Width.{Width}
use Rattle.occ_syntax.specs.Types.{same_width}
use Rattle.occ_parse_forms.specs.declared.form.Item.{Item}
use Rattle.occ_parse_rules.specs.declared.sort.Sort.{Sort}
use Rattle.occ_parse_rules.specs.declared.sort.Sort.TheVariants as sort
use Rattle.occ_parse_rules.specs.Names.{is_counter}
use Rattle.occ_parse_rules.specs.Places.{Sorts, for_some, numbers_from}
use Rattle.occ_parse_rules.specs.Types.{if_asked, sort_clashes, sort_here, width_of_sort}
use Rattle.occ_parse_scopes.proofs.Taken.{never, for_some_same, for_some_still}
use Rattle.occ_parse_types.specs.Asking.{items_clash, other_width, plain_counters}
use Rattle.occ_parse_types.specs.Turns.{name_in, same_name, sort_turn, turns}
use Rattle.occ_parse_types.proofs.Turning.{any_same, some_apart, some_item}
use Rattle.occ_parse_types.proofs.Widths.{element_no_counter}
use Rattle.occ_syntax.proofs.Widths.{same_as_itself, same_widths}

-- ---- widths

differs_too : (a w x : Width) → same_width a x ≡ true → same_width a w ≡ false → same_width w x ≡ false
differs_too a w x h k = false_from_ne_true (same_width w x) (λ t.
    both_ways (same_width a w) k (subst (λ v. same_width a v ≡ true) (same_widths a x h ∙ sym (same_widths w x t)) (same_as_itself a)))

-- an item that agrees with one width clashes with each other one
one_width : (a w : Width) (s : Option Sort) → is_counter s ≡ false → sort_clashes a s ≡ false → same_width a w ≡ false → sort_clashes w s ≡ true
one_width a w None c h k = refl
one_width a w (Some (sort.Channel x mark)) c h k = refl
one_width a w (Some (sort.Counter b n)) c h k = absurd (both_ways true c refl)
one_width a w (Some (sort.Variable x)) c h k = ap not (differs_too a w x (not-false (same_width a x) h) k)

-- ---- one value of the name in the asker's index

turn_alike : (Γ : Sorts) (i : Item) (a : Width) (o : Option Width) → plain_counters Γ ≡ true → is_some (name_in i.index) ≡ true → for_some Γ (λ ρ. sort_clashes a (sort_here Γ ρ i)) ≡ false → for_some Γ (λ ρ. if_asked o (λ w. sort_clashes w (sort_here Γ ρ i))) ≡ if_asked o (λ w. not (same_width a w))
turn_alike Γ i a None kept named h = for_some_still Γ false
turn_alike Γ i a (Some w) kept named h = elim (cases_Bool (same_width a w)) [
  | inl t ↦ ap (λ v. for_some Γ (λ ρ. sort_clashes v (sort_here Γ ρ i))) (sym (same_widths a w t)) ∙ h ∙ sym (ap not t)
  | inr t ↦
      for_some_same Γ _ (λ ρ. true) (λ ρ k. one_width a w (sort_here Γ ρ i) (element_no_counter Γ ρ i kept named) (never Γ (λ ρ. sort_clashes a (sort_here Γ ρ i)) h ρ k) t)
      ∙ for_some_still Γ true
      ∙ sym (ap not t)
]

first_of_them : (f : ℕ → Bool) (first many : ℕ) (vs : List ℕ) → numbers_from first many ≡ vs → 1 ≤ many → f first ≡ true → list_any f vs ≡ true
first_of_them f first zero vs e h t = absurd (omega arith)
first_of_them f first (suc many) vs e h t = ap (list_any f) (sym e) ∙ or_left (f first) _ t

pub apart_law : (Γ : Sorts) (j i : Item) (a : Width) (first many : ℕ) → plain_counters Γ ≡ true → is_some (name_in i.index) ≡ true → same_name (name_in j.index) (name_in i.index) ≡ false → numbers_from first many ≡ turns Γ j → 1 ≤ many → width_of_sort (sort_turn Γ j first) ≡ Some a → for_some Γ (λ ρ. items_clash (sort_here Γ ρ j) (sort_here Γ ρ i)) ≡ (for_some Γ (λ ρ. sort_clashes a (sort_here Γ ρ i)) || for_some Γ (λ ρ. other_width a (sort_here Γ ρ j)))
apart_law Γ j i a first many kept named differ numbers least width = elim (cases_Bool (for_some Γ (λ ρ. sort_clashes a (sort_here Γ ρ i)))) [
  | inl t ↦
      some_apart Γ j i items_clash differ
      ∙ first_of_them (λ v. for_some Γ (λ ρ. items_clash (sort_turn Γ j v) (sort_here Γ ρ i))) first many (turns Γ j) numbers least (ap (λ o. for_some Γ (λ ρ. if_asked o (λ w. sort_clashes w (sort_here Γ ρ i)))) width ∙ t)
      ∙ sym (or_left _ (for_some Γ (λ ρ. other_width a (sort_here Γ ρ j))) t)
  | inr t ↦
      some_apart Γ j i items_clash differ
      ∙ any_same _ _ (turns Γ j) (λ v. turn_alike Γ i a (width_of_sort (sort_turn Γ j v)) kept named t)
      ∙ sym (some_item Γ j (other_width a))
      ∙ sym (ap (λ b. b || for_some Γ (λ ρ. other_width a (sort_here Γ ρ j))) t)
]
