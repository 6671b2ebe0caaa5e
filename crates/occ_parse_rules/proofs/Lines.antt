-- What a line's judgements give to the process that it begins.
use Rattle.std.proofs.Common.{◌≡◌, refl, ap, sym, ◌∙◌, subst, Bool, true, false, not, ◌&&◌, ◌||◌, ◌==◌, Option, Some, None, is_none, map, List, [], ◌∷◌, inl, inr, ℕ}
use Rattle.std.specs.List.{list_any, list_all, AllByRecursion}
use Rattle.std.proofs.lemmas.Bool.{or_parts, or_from, and_parts, and_from, cases_Bool, eq-eqb, ne_eqb, not-false, not-true, both_ways}
use Rattle.occ_meaning.specs.occ_base.declared.event.Dir.{Dir}
use Rattle.occ_meaning.specs.occ_base.declared.event.Dir.TheVariants as dir
use Rattle.occ_meaning.specs.occ_base.declared.width.Width.{Width}
use Rattle.occ_meaning.specs.occ_base.declared.width.Width.TheVariants.{Bool as TruthValue, Word}
use Rattle.occ_meaning.proofs.Facts.{none_not_some, true_not_false, false_not_true, some_is, at_itself}
use Rattle.occ_meaning.specs.occ_syntax.Scopes.{Environment, variable_width, variable_kind, channel_width, channel_kind, allows, same_dir}
use Rattle.occ_meaning.specs.occ_syntax.Types.{same_width, is_width, agree, type_of, is_condition, input_kept, output_kept, waiting_kept, pairs_kept}
use Rattle.occ_parse_forms.specs.declared.form.Item.{Item}
use Rattle.occ_parse_forms.specs.declared.phrase.Index.{Index}
use Rattle.occ_parse_forms.specs.Shape.{Said, Waiting, ready, input, output}
use Rattle.occ_parse_rules.specs.declared.sort.Sort.{Sort}
use Rattle.occ_parse_rules.specs.declared.sort.Sort.TheVariants as sort
use Rattle.occ_parse_rules.specs.Places.{Place, Sorts, Indices, place_at, place_with, element_at, index_at, for_some}
use Rattle.occ_parse_rules.specs.Names.{index_counts, same_element, same_place, may_meet, some_meet}
use Rattle.occ_parse_rules.specs.Types.{sort_here, clashes, has_untyped, value_clashes, variable_sort, channel_sort, variable_here, channel_here, pairs_clash, widths_differ, waiting_clashes, waiting_untyped, is_against, waiting_against}
use Rattle.occ_parse_rules.specs.Unrolled.{Numbers, item_number, condition, value, values, waited}
use Rattle.occ_parse_rules.specs.Sound.{has_widths, waiting_has_widths, is_same_name, are_distinct, are_pairs}
use Rattle.occ_parse_rules.specs.Agreement.{Known, IsOneToOne, Agrees, IsTaken, kind_of}
use Rattle.occ_parse_rules.proofs.Taken.{none_taken}
use Rattle.occ_parse_rules.proofs.Typed.{is_here, number_here, kind_here, expression_typed}
use Rattle.occ_meaning.proofs.from_syntax.Widths.{same_widths}

-- ---- variables and channels

variable_is : (o : Option Sort) (w : Width) → variable_sort o ≡ Some w → o ≡ Some (sort.Variable w)
variable_is (Some (sort.Variable width)) w h = ap (λ u. Some (sort.Variable u)) (some_is h)
variable_is (Some (sort.Channel width mark)) w h = none_not_some h
variable_is (Some (sort.Counter b n)) w h = none_not_some h
variable_is None w h = none_not_some h

pub record IsChannel (o : Option Sort) (w : Width) : Type 0 where
  pub mark : Option Dir
  pub is : o ≡ Some (sort.Channel w mark)

channel_is : (o : Option Sort) (w : Width) → channel_sort o ≡ Some w → IsChannel o w
channel_is (Some (sort.Channel width mark)) w h = record { mark = mark; is = ap (λ u. Some (sort.Channel u mark)) (some_is h) }
channel_is (Some (sort.Variable width)) w h = none_not_some h
channel_is (Some (sort.Counter b n)) w h = none_not_some h
channel_is None w h = none_not_some h

variable_width_is : (D : Known) (N : Numbers) (Γ : Sorts) (E : Environment) (ρ : Indices) (i : Item) (w : Width) → Agrees D N Γ E → variable_here Γ ρ i ≡ Some w
    → (variable_width E (item_number N ρ i) ≡ Some w) × (is_width w ≡ true)
variable_width_is D N Γ E ρ i w a h =
    let p = is_here Γ ρ i (sort.Variable w) (variable_is (sort_here Γ ρ i) w h) in
    (ap variable_kind (kind_here D N Γ E ρ i (sort.Variable w) a p), a.widths p.place.name p.place.element (sort.Variable w) p.sort)

pub record ChannelKept (E : Environment) (c : ℕ) (d : Dir) (w : Width) : Type 0 where
  pub width : channel_width E c ≡ Some w
  pub allowed : allows (E c) d ≡ true
  pub is_one : is_width w ≡ true

against_allows : (w : Width) (mark : Option Dir) (d : Dir) → is_against d (Some (sort.Channel w mark)) ≡ false → allows (kind_of (Some (sort.Channel w mark))) d ≡ true
against_allows w None d h = refl
against_allows w (Some m) d h = not-false (same_dir m d) h

channel_width_is : (D : Known) (N : Numbers) (Γ : Sorts) (E : Environment) (ρ : Indices) (i : Item) (w : Width) (d : Dir) → Agrees D N Γ E → channel_here Γ ρ i ≡ Some w
    → is_against d (sort_here Γ ρ i) ≡ false → ChannelKept E (item_number N ρ i) d w
channel_width_is D N Γ E ρ i w d a h n =
    let c = channel_is (sort_here Γ ρ i) w h in
    let p = is_here Γ ρ i (sort.Channel w c.mark) c.is in
    let k = kind_here D N Γ E ρ i (sort.Channel w c.mark) a p in
    record {
      width = ap channel_kind k;
      allowed = ap (λ o. allows o d) k ∙ against_allows w c.mark d (sym (ap (is_against d) c.is) ∙ n);
      is_one = a.widths p.place.name p.place.element (sort.Channel w c.mark) p.sort;
    }

agree_same : (a b : Option Width) (w : Width) → a ≡ Some w → b ≡ Some w → agree a b ≡ true
agree_same a b TruthValue h k = ap (λ o. agree o b) h ∙ ap (agree (Some TruthValue)) k
agree_same a b (Word n) h k = ap (λ o. agree o b) h ∙ (ap (agree (Some (Word n))) k ∙ at_itself n)

-- ---- expressions

pub condition_kept : (D : Known) (N : Numbers) (Γ : Sorts) (E : Environment) (ρ : Indices) → Agrees D N Γ E → IsTaken Γ ρ → (e : Said) → has_widths e ≡ true
    → clashes Γ ρ e TruthValue ≡ false → has_untyped Γ ρ e ≡ false → is_condition E (condition N Γ ρ e) ≡ true
condition_kept D N Γ E ρ a t e s c u = agree_same (type_of E (condition N Γ ρ e)) (Some TruthValue) TruthValue (expression_typed D N Γ E ρ a t e TruthValue refl s c u) refl

-- a value for what has that width
value_typed : (D : Known) (N : Numbers) (Γ : Sorts) (E : Environment) (ρ : Indices) → Agrees D N Γ E → IsTaken Γ ρ → (e : Said) (o : Option Width) → has_widths e ≡ true
    → ((w : Width) → o ≡ Some w → is_width w ≡ true) → value_clashes Γ ρ o e ≡ false → has_untyped Γ ρ e ≡ false → (w : Width) × (o ≡ Some w) × (type_of E (value N Γ ρ o e) ≡ Some w)
value_typed D N Γ E ρ a t e None s f c u = true_not_false c
value_typed D N Γ E ρ a t e (Some w) s f c u = (w, refl, expression_typed D N Γ E ρ a t e w (f w refl) s c u)

-- ---- assignments

pub AllHere : Sorts → Indices → List Item → Type 0
AllHere Γ ρ xs = AllByRecursion (λ i. (w : Width) × (variable_here Γ ρ i ≡ Some w)) xs

some_width : (Γ : Sorts) (ρ : Indices) (o : Option Width) (e : Said) → value_clashes Γ ρ o e ≡ false → (w : Width) × (o ≡ Some w)
some_width Γ ρ None e h = true_not_false h
some_width Γ ρ (Some w) e h = (w, refl)

pub all_here : (Γ : Sorts) (ρ : Indices) (xs : List Item) (es : List Said) → are_pairs xs es ≡ true → pairs_clash Γ ρ xs es ≡ false → AllHere Γ ρ xs
unfolding AllHere
all_here Γ ρ [] es h c = tt
all_here Γ ρ (x ∷ xs) [] h c = false_not_true h
all_here Γ ρ (x ∷ []) (e ∷ es) h c = (some_width Γ ρ (variable_here Γ ρ x) e (or_parts (value_clashes Γ ρ (variable_here Γ ρ x) e) false c).0, tt)
all_here Γ ρ (x ∷ y ∷ xs) (e ∷ es) h c =
    let parts = or_parts (value_clashes Γ ρ (variable_here Γ ρ x) e) (pairs_clash Γ ρ (y ∷ xs) es) c in
    (some_width Γ ρ (variable_here Γ ρ x) e parts.0, all_here Γ ρ (y ∷ xs) es h parts.1)

element_of_place : (ρ : Indices) (x : ℕ) (o : Option Index) (p : Place) → place_with ρ x o ≡ Some p → is_none p.element ≡ is_none o
element_of_place ρ x None p h = ap (λ q. is_none q.element) (sym (some_is h))
element_of_place ρ x (Some i) p h = placed (index_at ρ i) h
  where
    placed : (k : Option ℕ) → element_at x k ≡ Some p → is_none p.element ≡ false
    placed None e = none_not_some e
    placed (Some k) e = ap (λ q. is_none q.element) (sym (some_is e))

same_from : (p q : Place) → p.name ≡ q.name → p.element ≡ q.element → same_place (Some p) (Some q) ≡ true
same_from p q h e = and_from (p.name == q.name) (same_element p.element q.element) (eq-eqb p.name q.name h) (subst (λ j. same_element p.element j ≡ true) e (itself p.element))
  where
    itself : (k : Option ℕ) → same_element k k ≡ true
    itself None = refl
    itself (Some k) = at_itself k

-- two items that neither are one name nor can meet have different numbers
numbers_differ : (D : Known) (N : Numbers) → IsOneToOne D N → (Γ : Sorts) (E : Environment) (ρ : Indices) → Agrees D N Γ E → IsTaken Γ ρ → (i j : Item) (v w : Width)
    → variable_here Γ ρ i ≡ Some v → variable_here Γ ρ j ≡ Some w → is_same_name i j ≡ false → may_meet Γ i j ≡ false → (item_number N ρ i == item_number N ρ j) ≡ false
numbers_differ D N u Γ E ρ a t i j v w hi hj s m =
    let p = is_here Γ ρ i (sort.Variable v) (variable_is (sort_here Γ ρ i) v hi) in
    let q = is_here Γ ρ j (sort.Variable w) (variable_is (sort_here Γ ρ j) w hj) in
    ne_eqb (item_number N ρ i) (item_number N ρ j) (λ e.
    let same = sym (number_here N Γ ρ i (sort.Variable v) p) ∙ (e ∙ number_here N Γ ρ j (sort.Variable w) q) in
    let known_p = a.inside p.place.name p.place.element (sort.Variable v) p.sort in
    let known_q = a.inside q.place.name q.place.element (sort.Variable w) q.sort in
    let names = u.name p.place.name p.place.element q.place.name q.place.element known_p known_q same in
    let elements = u.element p.place.name p.place.element q.place.name q.place.element known_p known_q same in
    let meet = ap (λ o. same_place o (place_at ρ j)) p.at ∙ (ap (same_place (Some p.place)) q.at ∙ same_from p.place q.place names elements) in
    let ni = element_of_place ρ i.name.0 i.index p.place p.at in
    let nj = element_of_place ρ j.name.0 j.index q.place q.at in
    let one = sym ni ∙ (ap is_none elements ∙ nj) in
    let same_name = sym p.name ∙ (names ∙ q.name) in
    elim (cases_Bool (is_none i.index)) [
      | inl k ↦ both_ways (is_same_name i j) s (and_from (is_none i.index && is_none j.index) (i.name.0 == j.name.0)
          (and_from (is_none i.index) (is_none j.index) k (sym one ∙ k)) (eq-eqb i.name.0 j.name.0 same_name))
      | inr k ↦
          let ci = counts (is_none i.index) (index_counts Γ i.index) k p.settled in
          let cj = counts (is_none j.index) (index_counts Γ j.index) (sym one ∙ k) q.settled in
          both_ways (same_place (place_at ρ i) (place_at ρ j))
          (none_taken Γ (λ σ. same_place (place_at σ i) (place_at σ j)) ρ t
          (apart (index_counts Γ i.index && index_counts Γ j.index) (for_some Γ (λ σ. same_place (place_at σ i) (place_at σ j))) (and_from (index_counts Γ i.index) (index_counts Γ j.index) ci cj) m))
          meet
    ])
  where
    counts : (b c : Bool) → b ≡ false → (b || c) ≡ true → c ≡ true
    counts true c h k = true_not_false h
    counts false c h k = k

    apart : (b c : Bool) → b ≡ true → (b && c) ≡ false → c ≡ false
    apart true c h k = k
    apart false c h k = false_not_true h

one_pair : (D : Known) (N : Numbers) (Γ : Sorts) (E : Environment) (ρ : Indices) → Agrees D N Γ E → IsTaken Γ ρ → (x : Item) (e : Said) (w : Width) → variable_here Γ ρ x ≡ Some w → has_widths e ≡ true
    → value_clashes Γ ρ (variable_here Γ ρ x) e ≡ false → has_untyped Γ ρ e ≡ false → agree (variable_width E (item_number N ρ x)) (type_of E (value N Γ ρ (variable_here Γ ρ x) e)) ≡ true
one_pair D N Γ E ρ a t x e w h s c n =
    let k = variable_width_is D N Γ E ρ x w a h in
    let v = value_typed D N Γ E ρ a t e (variable_here Γ ρ x) s (λ u f. (variable_width_is D N Γ E ρ x u a f).1) c n in
    agree_same (variable_width E (item_number N ρ x)) (type_of E (value N Γ ρ (variable_here Γ ρ x) e)) v.0 (k.0 ∙ (sym h ∙ v.1)) v.2

-- the number of an item is that of no other one in the list
none_again : (D : Known) (N : Numbers) → IsOneToOne D N → (Γ : Sorts) (E : Environment) (ρ : Indices) → Agrees D N Γ E → IsTaken Γ ρ → (i : Item) (v : Width) → variable_here Γ ρ i ≡ Some v
    → (xs : List Item) → AllHere Γ ρ xs → list_any (is_same_name i) xs ≡ false → list_any (may_meet Γ i) xs ≡ false → list_any (λ y. item_number N ρ i == y) (map (item_number N ρ) xs) ≡ false
unfolding AllHere
none_again D N u Γ E ρ a t i v hi [] here s m = refl
none_again D N u Γ E ρ a t i v hi (j ∷ xs) here s m =
    let ss = or_parts (is_same_name i j) (list_any (is_same_name i) xs) s in
    let ms = or_parts (may_meet Γ i j) (list_any (may_meet Γ i) xs) m in
    or_from (item_number N ρ i == item_number N ρ j) (list_any (λ y. item_number N ρ i == y) (map (item_number N ρ) xs))
    (numbers_differ D N u Γ E ρ a t i j v here.0.0 hi here.0.1 ss.0 ms.0) (none_again D N u Γ E ρ a t i v hi xs here.1 ss.1 ms.1)

pub pairs_are_kept : (D : Known) (N : Numbers) → IsOneToOne D N → (Γ : Sorts) (E : Environment) (ρ : Indices) → Agrees D N Γ E → IsTaken Γ ρ → (xs : List Item) (es : List Said)
    → are_pairs xs es ≡ true → AllHere Γ ρ xs → are_distinct xs ≡ true → list_all has_widths es ≡ true → some_meet Γ xs ≡ false → pairs_clash Γ ρ xs es ≡ false → list_any (has_untyped Γ ρ) es ≡ false
    → pairs_kept E (map (item_number N ρ) xs) (values N Γ ρ xs es) ≡ true
unfolding AllHere
pairs_are_kept D N u Γ E ρ a t [] es p here d s m c n = false_not_true p
pairs_are_kept D N u Γ E ρ a t (x ∷ xs) [] p here d s m c n = false_not_true p
pairs_are_kept D N u Γ E ρ a t (x ∷ []) (e ∷ []) p here d s m c n =
    and_from (agree (variable_width E (item_number N ρ x)) (type_of E (value N Γ ρ (variable_here Γ ρ x) e)) && true) true
    (and_from (agree (variable_width E (item_number N ρ x)) (type_of E (value N Γ ρ (variable_here Γ ρ x) e))) true
    (one_pair D N Γ E ρ a t x e here.0.0 here.0.1 (and_parts (has_widths e) true s).0 (or_parts (value_clashes Γ ρ (variable_here Γ ρ x) e) false c).0 (or_parts (has_untyped Γ ρ e) false n).0) refl) refl
pairs_are_kept D N u Γ E ρ a t (x ∷ []) (e ∷ f ∷ es) p here d s m c n = false_not_true p
pairs_are_kept D N u Γ E ρ a t (x ∷ y ∷ xs) (e ∷ es) p here d s m c n =
    let ds = and_parts (not (list_any (is_same_name x) (y ∷ xs))) (are_distinct (y ∷ xs)) d in
    let ws = and_parts (has_widths e) (list_all has_widths es) s in
    let ms = or_parts (list_any (may_meet Γ x) (y ∷ xs)) (some_meet Γ (y ∷ xs)) m in
    let cs = or_parts (value_clashes Γ ρ (variable_here Γ ρ x) e) (pairs_clash Γ ρ (y ∷ xs) es) c in
    let ns = or_parts (has_untyped Γ ρ e) (list_any (has_untyped Γ ρ) es) n in
    and_from (agree (variable_width E (item_number N ρ x)) (type_of E (value N Γ ρ (variable_here Γ ρ x) e)) && not (list_any (λ z. item_number N ρ x == z) (map (item_number N ρ) (y ∷ xs))))
    (pairs_kept E (map (item_number N ρ) (y ∷ xs)) (values N Γ ρ (y ∷ xs) es))
    (and_from (agree (variable_width E (item_number N ρ x)) (type_of E (value N Γ ρ (variable_here Γ ρ x) e))) (not (list_any (λ z. item_number N ρ x == z) (map (item_number N ρ) (y ∷ xs))))
    (one_pair D N Γ E ρ a t x e here.0.0 here.0.1 ws.0 cs.0 ns.0)
    (ap not (none_again D N u Γ E ρ a t x here.0.0 here.0.1 (y ∷ xs) here.1 (not-true (list_any (is_same_name x) (y ∷ xs)) ds.0) ms.0)))
    (pairs_are_kept D N u Γ E ρ a t (y ∷ xs) es p here.1 ds.1 ws.1 ms.1 cs.1 ns.1)

-- ---- inputs and outputs

differ_not : (a b : Option Width) → widths_differ a b ≡ false → (w : Width) × (a ≡ Some w) × (b ≡ Some w)
differ_not (Some w) (Some v) h = (w, refl, ap Some (sym (same_widths w v (not-false (same_width w v) h))))
differ_not (Some w) None h = true_not_false h
differ_not None b h = true_not_false h

pub input_is_kept : (D : Known) (N : Numbers) (Γ : Sorts) (E : Environment) (ρ : Indices) → Agrees D N Γ E → (c x : Item) → waiting_clashes Γ ρ (input c x) ≡ false → waiting_against Γ ρ (input c x) ≡ false
    → input_kept E (item_number N ρ c) (item_number N ρ x) ≡ true
input_is_kept D N Γ E ρ a c x h n =
    let w = differ_not (channel_here Γ ρ c) (variable_here Γ ρ x) h in
    let k = channel_width_is D N Γ E ρ c w.0 dir.Input a w.1 n in
    and_from (allows (E (item_number N ρ c)) dir.Input) (agree (channel_width E (item_number N ρ c)) (variable_width E (item_number N ρ x)))
    k.allowed (agree_same (channel_width E (item_number N ρ c)) (variable_width E (item_number N ρ x)) w.0 k.width (variable_width_is D N Γ E ρ x w.0 a w.2).0)

pub output_is_kept : (D : Known) (N : Numbers) (Γ : Sorts) (E : Environment) (ρ : Indices) → Agrees D N Γ E → IsTaken Γ ρ → (c : Item) (e : Said) → has_widths e ≡ true
    → waiting_clashes Γ ρ (output c e) ≡ false → has_untyped Γ ρ e ≡ false → waiting_against Γ ρ (output c e) ≡ false
    → output_kept E (item_number N ρ c) (value N Γ ρ (channel_here Γ ρ c) e) ≡ true
output_is_kept D N Γ E ρ a t c e s h u n =
    let w = some_width Γ ρ (channel_here Γ ρ c) e h in
    let k = channel_width_is D N Γ E ρ c w.0 dir.Output a w.1 n in
    let v = value_typed D N Γ E ρ a t e (channel_here Γ ρ c) s (λ v f. subst (λ z. is_width z ≡ true) (some_is (sym w.1 ∙ f)) k.is_one) h u in
    and_from (allows (E (item_number N ρ c)) dir.Output) (agree (channel_width E (item_number N ρ c)) (type_of E (value N Γ ρ (channel_here Γ ρ c) e)))
    k.allowed (agree_same (channel_width E (item_number N ρ c)) (type_of E (value N Γ ρ (channel_here Γ ρ c) e)) v.0 (k.width ∙ (sym w.1 ∙ v.1)) v.2)

pub waiting_is_kept : (D : Known) (N : Numbers) (Γ : Sorts) (E : Environment) (ρ : Indices) → Agrees D N Γ E → IsTaken Γ ρ → (w : Waiting) → waiting_has_widths w ≡ true
    → waiting_clashes Γ ρ w ≡ false → waiting_untyped Γ ρ w ≡ false → waiting_against Γ ρ w ≡ false → waiting_kept E (waited N Γ ρ w) ≡ true
waiting_is_kept D N Γ E ρ a t ready s h u n = refl
waiting_is_kept D N Γ E ρ a t (input c x) s h u n = input_is_kept D N Γ E ρ a c x h n
waiting_is_kept D N Γ E ρ a t (output c e) s h u n = output_is_kept D N Γ E ρ a t c e s h u n
