-- On a line in order each item names a place, at each copy of the line.
use Rattle.std.proofs.Common.{◌≡◌, Bool, true, false, not, ◌&&◌, ◌||◌, List, [], ◌∷◌, ◌++◌, Option, Some, None, is_none, is_some, refl, sym, ap, ◌∙◌}
use Rattle.std.specs.List.{AllByRecursion, list_any}
use Rattle.std.proofs.lemmas.Bool.{not-false, or_parts}
use Rattle.occ_replay_rules.proofs.from_meaning.Facts.{false_not_true, true_not_false}
use Rattle.occ_replay_rules.specs.occ_parse_forms.declared.form.Declared.TheVariants as declared
use Rattle.occ_replay_rules.specs.occ_parse_forms.declared.form.Item.{Item}
use Rattle.occ_replay_rules.specs.occ_parse_forms.declared.phrase.Index.{Index}
use Rattle.occ_replay_rules.specs.occ_parse_forms.Shape.{Shape}
use Rattle.occ_replay_rules.specs.occ_parse_rules.Names.{index_counts, is_outside, is_undeclared, left_items, redeclares, some_meet, uses}
use Rattle.occ_replay_rules.specs.occ_parse_rules.Places.{Indices, Place, Sorts, for_some, place_at, place_with, sort_of_place}
use Rattle.occ_replay_rules.specs.occ_parse_rules.Types.{has_lost, line_clashes}
use Rattle.occ_replay_rules.specs.occ_parse_rules.Agreement.{IsTaken}
use Rattle.occ_replay_rules.specs.occ_parse_rules.InOrder.{IsInOrder}
use Rattle.occ_replay_rules.proofs.from_parse_rules.Facts.{if_none}
use Rattle.occ_replay_rules.proofs.from_parse_rules.Taken.{none_taken}

-- each of the items names a place
abbrev pub AreHere : Indices → List Item → Type 0
AreHere ρ is = AllByRecursion (λ i. is_some (place_at ρ i) ≡ true) is

-- ---- the items of a line

some_place : (Γ : Sorts) (o : Option Place) → is_none (sort_of_place Γ o) ≡ false → is_some o ≡ true
some_place Γ None h = true_not_false h
some_place Γ (Some p) h = refl

chosen : (b c : Bool) → b ≡ true → (b && c) ≡ false → c ≡ false
chosen true c h k = k
chosen false c h k = false_not_true h

here_at : (Γ : Sorts) (ρ : Indices) → IsTaken Γ ρ → (i : Item) (o : Option Index) → i.index ≡ o → (is_none i.index || index_counts Γ i.index) ≡ true → is_outside Γ i ≡ false
    → is_some (place_at ρ i) ≡ true
here_at Γ ρ t i None e c h = ap (λ o. is_some (place_with ρ i.name.0 o)) e
here_at Γ ρ t i (Some k) e c h =
    let counts : index_counts Γ i.index ≡ true = ap (λ o. index_counts Γ o) e ∙ (ap (λ o. is_none o || index_counts Γ o) (sym e) ∙ c) in
    let none = chosen (index_counts Γ i.index) (for_some Γ (λ σ. is_none (sort_of_place Γ (place_at σ i)))) counts h in
    some_place Γ (place_at ρ i) (none_taken Γ (λ σ. is_none (sort_of_place Γ (place_at σ i))) ρ t none)

abbrev is_lost : Sorts → Item → Bool
is_lost Γ i = not (is_none i.index || index_counts Γ i.index)

all_here : (Γ : Sorts) (ρ : Indices) → IsTaken Γ ρ → (is : List Item) → list_any (is_lost Γ) is ≡ false → list_any (is_outside Γ) is ≡ false → AreHere ρ is
all_here Γ ρ t [] l o = tt
all_here Γ ρ t (i ∷ is) l o =
    let ls = or_parts (is_lost Γ i) (list_any (is_lost Γ) is) l in
    let os = or_parts (is_outside Γ i) (list_any (is_outside Γ) is) o in (
      here_at Γ ρ t i i.index refl (not-false (is_none i.index || index_counts Γ i.index) ls.0) os.0,
      all_here Γ ρ t is ls.1 os.1,
    )

pub items_here : (Γ : Sorts) (ρ : Indices) (s : Shape) → IsTaken Γ ρ → IsInOrder Γ s → AreHere ρ (uses s)
items_here Γ ρ s t j =
    let lost = (or_parts (has_lost Γ s) (for_some Γ (λ σ. line_clashes Γ σ s)) (if_none (has_lost Γ s || for_some Γ (λ σ. line_clashes Γ σ s)) _ _ j.types).0).0 in
    let declared = (if_none (redeclares Γ s) _ _ (if_none (list_any (is_undeclared Γ) (uses s)) _ _ j.names).1).1 in
    let outside = (or_parts (list_any (is_outside Γ) (uses s)) (some_meet Γ (left_items s))
    (if_none (list_any (is_outside Γ) (uses s) || some_meet Γ (left_items s)) _ _ declared).0).0 in
    all_here Γ ρ t (uses s) lost outside

-- ---- lists

pub here_front : (ρ : Indices) (is js : List Item) → AreHere ρ (is ++ js) → AreHere ρ is
here_front ρ [] js h = tt
here_front ρ (i ∷ is) js h = (h.0, here_front ρ is js h.1)

pub here_back : (ρ : Indices) (is js : List Item) → AreHere ρ (is ++ js) → AreHere ρ js
here_back ρ [] js h = h
here_back ρ (i ∷ is) js h = here_back ρ is js h.1
