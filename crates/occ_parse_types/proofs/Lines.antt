-- Lines of text for some values of the indices, by their parts.
use Rattle.std.proofs.Common.{◌≡◌, ℕ, zero, suc, ◌+◌, ◌<◌, ◌≤◌, Bool, true, false, ◌||◌, List, [], ◌∷◌, Option, Some, None, is_none, length, get_or, drop, refl, sym, ap, ◌∙◌, arith}
use Rattle.std.specs.List.{list_any}
use Rattle.std.proofs.lemmas.Bool.{both_ways, false_from_ne_true, or_from}
use Rattle.std.proofs.lemmas.List.{drop_more, drop_all}
use Rattle.std.proofs.lemmas.List.Folds.{list_any_at}
use Rattle.occ_syntax.specs.occ_base.declared.width.Width.{Width}
use Rattle.occ_parse_forms.specs.declared.form.Item.{Item}
use Rattle.occ_parse_forms.specs.declared.phrase.Phrase.{Phrase}
use Rattle.occ_parse_forms.specs.declared.form.Form.{Form}
use Rattle.occ_parse_forms.specs.declared.form.Form.TheVariants as form
use Rattle.occ_parse_forms.specs.declared.form.Wants.{Wants}
use Rattle.occ_parse_forms.specs.Shape.{Said, item, said, all_said, shape}
use Rattle.occ_parse_rules.specs.declared.sort.Sort.{Sort}
use Rattle.occ_parse_rules.specs.declared.sort.Sort.TheVariants as sort
use Rattle.occ_parse_rules.specs.Names.{items_in, items_in_all}
use Rattle.occ_parse_rules.specs.Places.{Sorts, Indices, for_some}
use Rattle.occ_parse_rules.specs.Types.{channel_here, channel_sort, clashes, has_untyped, if_asked, line_against, line_clashes, line_untyped, own, pairs_clash, sort_clashes, sort_here, value_clashes, variable_here, variable_sort, width_of_sort, widths_differ}
use Rattle.occ_parse_scopes.proofs.Taken.{never, for_some_same, for_some_still, for_some_or}
use Rattle.occ_parse_types.specs.declared.asking.Asker.{Asker}
use Rattle.occ_parse_types.specs.declared.asking.Place.{Place}
use Rattle.occ_parse_types.specs.declared.asking.Place.TheVariants as place
use Rattle.occ_parse_types.specs.Asking.{AllThere, IsWidth, width_by}
use Rattle.occ_parse_types.specs.Lines.{place_width, width_in_place}
use Rattle.occ_parse_types.proofs.Expressions.{clash_by}
use Rattle.occ_parse_types.proofs.Widths.{there_front, there_back}

-- ---- an item in its place

value_parts : (Γ : Sorts) (ρ : Indices) (o : Option Width) (e : Said) → value_clashes Γ ρ o e ≡ (is_none o || value_clashes Γ ρ o e)
value_parts Γ ρ None e = refl
value_parts Γ ρ (Some w) e = refl

pub value_law : (Γ : Sorts) (p : Place) (i : Item) (e : Said) → for_some Γ (λ ρ. value_clashes Γ ρ (place_width Γ p i ρ) e) ≡ (for_some Γ (λ ρ. is_none (place_width Γ p i ρ)) || for_some Γ (λ ρ. value_clashes Γ ρ (place_width Γ p i ρ) e))
value_law Γ p i e =
    for_some_same Γ _ _ (λ ρ t. value_parts Γ ρ (place_width Γ p i ρ) e)
    ∙ for_some_or Γ (λ ρ. is_none (place_width Γ p i ρ)) (λ ρ. value_clashes Γ ρ (place_width Γ p i ρ) e)

value_in_place : (Γ : Sorts) (ρ : Indices) (p : Place) (s : Option Sort) (e : Said) → is_none (width_in_place p s) ≡ false → value_clashes Γ ρ (width_in_place p s) e ≡ if_asked (width_of_sort s) (clashes Γ ρ e)
value_in_place Γ ρ place.Variable None e h = absurd (both_ways true h refl)
value_in_place Γ ρ place.Variable (Some (sort.Variable w)) e h = refl
value_in_place Γ ρ place.Variable (Some (sort.Channel w mark)) e h = absurd (both_ways true h refl)
value_in_place Γ ρ place.Variable (Some (sort.Counter b n)) e h = absurd (both_ways true h refl)
value_in_place Γ ρ place.Channel None e h = absurd (both_ways true h refl)
value_in_place Γ ρ place.Channel (Some (sort.Variable w)) e h = absurd (both_ways true h refl)
value_in_place Γ ρ place.Channel (Some (sort.Channel w mark)) e h = refl
value_in_place Γ ρ place.Channel (Some (sort.Counter b n)) e h = absurd (both_ways true h refl)

pub value_by : (Γ : Sorts) (p : Place) (i : Item) (e : Said) (o : Option Asker) → for_some Γ (λ ρ. is_none (place_width Γ p i ρ)) ≡ false → IsWidth Γ (λ ρ. own Γ ρ (item i)) o → for_some Γ (λ ρ. value_clashes Γ ρ (place_width Γ p i ρ) e) ≡ clash_by Γ o e
value_by Γ p i e o h who = for_some_same Γ _ _ (λ ρ t.
    value_in_place Γ ρ p (sort_here Γ ρ i) e (never Γ (λ ρ. is_none (place_width Γ p i ρ)) h ρ t)
    ∙ ap (λ w. if_asked w (clashes Γ ρ e)) (who.same ρ t))

-- ---- an input

widths_parts : (o p : Option Width) → widths_differ o p ≡ (is_none o || (is_none p || widths_differ o p))
widths_parts None p = refl
widths_parts (Some w) None = refl
widths_parts (Some w) (Some v) = refl

pub input_law : (Γ : Sorts) (c x : Item) → for_some Γ (λ ρ. widths_differ (channel_here Γ ρ c) (variable_here Γ ρ x)) ≡ (for_some Γ (λ ρ. is_none (place_width Γ place.Channel c ρ)) || (for_some Γ (λ ρ. is_none (place_width Γ place.Variable x ρ)) || for_some Γ (λ ρ. widths_differ (channel_here Γ ρ c) (variable_here Γ ρ x))))
input_law Γ c x =
    for_some_same Γ _ _ (λ ρ t. widths_parts (channel_here Γ ρ c) (variable_here Γ ρ x))
    ∙ for_some_or Γ (λ ρ. is_none (place_width Γ place.Channel c ρ)) (λ ρ. is_none (place_width Γ place.Variable x ρ) || widths_differ (channel_here Γ ρ c) (variable_here Γ ρ x))
    ∙ ap (λ b. for_some Γ (λ ρ. is_none (place_width Γ place.Channel c ρ)) || b) (for_some_or Γ (λ ρ. is_none (place_width Γ place.Variable x ρ)) (λ ρ. widths_differ (channel_here Γ ρ c) (variable_here Γ ρ x)))

input_in_place : (s t : Option Sort) → is_none (channel_sort s) ≡ false → is_none (variable_sort t) ≡ false → widths_differ (channel_sort s) (variable_sort t) ≡ if_asked (width_of_sort s) (λ w. sort_clashes w t)
input_in_place None t h k = absurd (both_ways true h refl)
input_in_place (Some (sort.Variable w)) t h k = absurd (both_ways true h refl)
input_in_place (Some (sort.Counter b n)) t h k = absurd (both_ways true h refl)
input_in_place (Some (sort.Channel w mark)) None h k = absurd (both_ways true k refl)
input_in_place (Some (sort.Channel w mark)) (Some (sort.Variable v)) h k = refl
input_in_place (Some (sort.Channel w mark)) (Some (sort.Channel v other)) h k = absurd (both_ways true k refl)
input_in_place (Some (sort.Channel w mark)) (Some (sort.Counter b n)) h k = absurd (both_ways true k refl)

abbrev pub item_by : Sorts → Option Asker → Item → Bool
item_by Γ o x = for_some Γ (λ ρ. if_asked (width_by Γ ρ o) (λ w. sort_clashes w (sort_here Γ ρ x)))

pub input_by : (Γ : Sorts) (c x : Item) (o : Option Asker) → for_some Γ (λ ρ. is_none (place_width Γ place.Channel c ρ)) ≡ false → for_some Γ (λ ρ. is_none (place_width Γ place.Variable x ρ)) ≡ false → IsWidth Γ (λ ρ. own Γ ρ (item c)) o → for_some Γ (λ ρ. widths_differ (channel_here Γ ρ c) (variable_here Γ ρ x)) ≡ item_by Γ o x
input_by Γ c x o h k who = for_some_same Γ _ _ (λ ρ t.
    input_in_place (sort_here Γ ρ c) (sort_here Γ ρ x) (never Γ (λ ρ. is_none (place_width Γ place.Channel c ρ)) h ρ t) (never Γ (λ ρ. is_none (place_width Γ place.Variable x ρ)) k ρ t)
    ∙ ap (λ w. if_asked w (λ w. sort_clashes w (sort_here Γ ρ x))) (who.same ρ t))

pub no_item_asked : (Γ : Sorts) (x : Item) → item_by Γ None x ≡ false
no_item_asked Γ x = for_some_still Γ false

-- ---- lists of items and of expressions

pub there_at : (Γ : Sorts) (is : List Item) (k : ℕ) (d : Item) → k < length is → AllThere Γ is → AllThere Γ (get_or is k d ∷ [])
there_at Γ is k d h there = record {
  all = λ ρ t. or_from _ false (false_from_ne_true (is_none (sort_here Γ ρ (get_or is k d))) (λ e. both_ways _ (there.all ρ t) (list_any_at (λ i. is_none (sort_here Γ ρ i)) is k d h e))) refl;
}

pub there_said : (Γ : Sorts) (es : List Phrase) (k : ℕ) (d : Phrase) → k < length es → AllThere Γ (items_in_all (all_said es)) → AllThere Γ (items_in (said (get_or es k d)))
there_said Γ [] k d h there = absurd (omega arith)
there_said Γ (e ∷ es) zero d h there = there_front Γ (items_in (said e)) (items_in_all (all_said es)) there
there_said Γ (e ∷ es) (suc k) d h there = there_said Γ es k d (omega arith) (there_back Γ (items_in (said e)) (items_in_all (all_said es)) there)

pub pairs_more : (Γ : Sorts) (xs : List Item) (es : List Phrase) (k : ℕ) (x : Item) (e : Phrase) → k < length xs → k < length es → for_some Γ (λ ρ. pairs_clash Γ ρ (drop k xs) (all_said (drop k es))) ≡ (for_some Γ (λ ρ. value_clashes Γ ρ (place_width Γ place.Variable (get_or xs k x) ρ) (said (get_or es k e))) || for_some Γ (λ ρ. pairs_clash Γ ρ (drop (k + 1) xs) (all_said (drop (k + 1) es))))
pairs_more Γ xs es k x e h j =
    (λ n. for_some Γ (λ ρ. pairs_clash Γ ρ (drop_more xs k x h n) (all_said (drop_more es k e j n))))
    ∙ for_some_or Γ (λ ρ. value_clashes Γ ρ (place_width Γ place.Variable (get_or xs k x) ρ) (said (get_or es k e))) (λ ρ. pairs_clash Γ ρ (drop (k + 1) xs) (all_said (drop (k + 1) es)))

no_values : (Γ : Sorts) (ρ : Indices) (xs : List Item) → pairs_clash Γ ρ xs [] ≡ false
no_values Γ ρ [] = refl
no_values Γ ρ (x ∷ xs) = refl

pub pairs_end_right : (Γ : Sorts) (xs : List Item) (es : List Phrase) (k : ℕ) → length es ≤ k → for_some Γ (λ ρ. pairs_clash Γ ρ (drop k xs) (all_said (drop k es))) ≡ false
pairs_end_right Γ xs es k h =
    for_some_same Γ _ (λ ρ. false) (λ ρ t. ap (λ es. pairs_clash Γ ρ (drop k xs) (all_said es)) (drop_all k es h) ∙ no_values Γ ρ (drop k xs))
    ∙ for_some_still Γ false

pub pairs_end_left : (Γ : Sorts) (xs : List Item) (es : List Phrase) (k : ℕ) → length xs ≤ k → for_some Γ (λ ρ. pairs_clash Γ ρ (drop k xs) (all_said (drop k es))) ≡ false
pairs_end_left Γ xs es k h =
    for_some_same Γ _ (λ ρ. false) (λ ρ t. ap (λ xs. pairs_clash Γ ρ xs (all_said (drop k es))) (drop_all k xs h))
    ∙ for_some_still Γ false

pub untyped_more : (Γ : Sorts) (es : List Phrase) (k : ℕ) (e : Phrase) → k < length es → for_some Γ (λ ρ. list_any (has_untyped Γ ρ) (all_said (drop k es))) ≡ (for_some Γ (λ ρ. has_untyped Γ ρ (said (get_or es k e))) || for_some Γ (λ ρ. list_any (has_untyped Γ ρ) (all_said (drop (k + 1) es))))
untyped_more Γ es k e h =
    ap (λ es. for_some Γ (λ ρ. list_any (has_untyped Γ ρ) (all_said es))) (drop_more es k e h)
    ∙ for_some_or Γ (λ ρ. has_untyped Γ ρ (said (get_or es k e))) (λ ρ. list_any (has_untyped Γ ρ) (all_said (drop (k + 1) es)))

pub untyped_end : (Γ : Sorts) (es : List Phrase) (k : ℕ) → length es ≤ k → for_some Γ (λ ρ. list_any (has_untyped Γ ρ) (all_said (drop k es))) ≡ false
untyped_end Γ es k h =
    ap (λ es. for_some Γ (λ ρ. list_any (has_untyped Γ ρ) (all_said es))) (drop_all k es h)
    ∙ for_some_still Γ false

-- ---- other lines

pub other_clash : (Γ : Sorts) (f : Form) → ((l : List Item) (r : List Phrase) → f ≡ form.Assign l r → ⊥) → ((c x : Item) → f ≡ form.Input c x → ⊥) → ((c : Item) (e : Phrase) → f ≡ form.Output c e → ⊥) → ((e : Phrase) → f ≡ form.Condition e → ⊥) → ((e : Phrase) (w : Wants) → f ≡ form.Guard e w → ⊥) → false ≡ for_some Γ (λ ρ. line_clashes Γ ρ (shape f))
other_clash Γ (form.Assign l r) a b c d e = absurd (a l r refl)
other_clash Γ (form.Input x y) a b c d e = absurd (b x y refl)
other_clash Γ (form.Output x y) a b c d e = absurd (c x y refl)
other_clash Γ (form.Condition x) a b c d e = absurd (d x refl)
other_clash Γ (form.Guard x y) a b c d e = absurd (e x y refl)
other_clash Γ f a b c d e = sym (for_some_still Γ false)

pub other_untyped : (Γ : Sorts) (f : Form) → ((l : List Item) (r : List Phrase) → f ≡ form.Assign l r → ⊥) → ((c : Item) (e : Phrase) → f ≡ form.Output c e → ⊥) → ((e : Phrase) → f ≡ form.Condition e → ⊥) → ((e : Phrase) (w : Wants) → f ≡ form.Guard e w → ⊥) → false ≡ for_some Γ (λ ρ. line_untyped Γ ρ (shape f))
other_untyped Γ (form.Assign l r) a c d e = absurd (a l r refl)
other_untyped Γ (form.Output x y) a c d e = absurd (c x y refl)
other_untyped Γ (form.Condition x) a c d e = absurd (d x refl)
other_untyped Γ (form.Guard x y) a c d e = absurd (e x y refl)
other_untyped Γ f a c d e = sym (for_some_still Γ false)

pub other_against : (Γ : Sorts) (f : Form) → ((c x : Item) → f ≡ form.Input c x → ⊥) → ((c : Item) (e : Phrase) → f ≡ form.Output c e → ⊥) → ((e : Phrase) (w : Wants) → f ≡ form.Guard e w → ⊥) → false ≡ for_some Γ (λ ρ. line_against Γ ρ (shape f))
other_against Γ (form.Input x y) b c e = absurd (b x y refl)
other_against Γ (form.Output x y) b c e = absurd (c x y refl)
other_against Γ (form.Guard x y) b c e = absurd (e x y refl)
other_against Γ f b c e = sym (for_some_still Γ false)
