-- An expression without a clash has the type that it is asked for.
use Rattle.std.proofs.Common.{◌≡◌, refl, ap, sym, ◌∙◌, subst, Bool, true, false, not, ◌&&◌, ◌||◌, ◌≤◌, ◌^◌, nat_lt, arith, Option, Some, None, is_none, unwrap_or, ℕ, min}
use Rattle.std.proofs.lemmas.Bool.{or_parts, and_parts, and_from, not-false, ltb-true, lt-ltb}
use Rattle.occ_meaning.specs.occ_base.declared.width.Width.{Width}
use Rattle.occ_meaning.specs.occ_base.declared.width.Width.TheVariants.{Bool as TruthValue, Word}
use Rattle.occ_meaning.specs.occ_base.Width.{bits_of}
use Rattle.occ_meaning.proofs.Facts.{none_not_some, true_not_false, false_not_true, some_is, if_true}
use Rattle.occ_meaning.specs.occ_syntax.declared.expr.Op.{Op}
use Rattle.occ_meaning.specs.occ_syntax.declared.expr.Op.TheVariants as op
use Rattle.occ_meaning.specs.occ_syntax.Scopes.{Environment, variable_kind}
use Rattle.occ_meaning.specs.occ_syntax.Tree.{Exp}
use Rattle.occ_meaning.specs.occ_syntax.Tree as tree
use Rattle.occ_meaning.specs.occ_syntax.Types.{same_width, is_width, type_of, type_of_two, type_given, if_truth_value, if_word, of_words as of_words', of_truth_values as of_truth_values'}
use Rattle.occ_parse_forms.specs.declared.form.Item.{Item}
use Rattle.occ_parse_forms.specs.declared.phrase.Index.{Index}
use Rattle.occ_parse_forms.specs.Shape.{Said, item, numeral, typed, truth, negation, complement, operation}
use Rattle.occ_parse_rules.specs.declared.sort.Sort.{Sort}
use Rattle.occ_parse_rules.specs.declared.sort.Sort.TheVariants as sort
use Rattle.occ_parse_rules.specs.Places.{Place, Sorts, Indices, sort_at, place_at, place_with, element_at, index_at, sort_of_place}
use Rattle.occ_parse_rules.specs.Names.{index_counts}
use Rattle.occ_parse_rules.specs.Types.{is_truth_value, fits, greatest, sort_if, sort_here, width_of_sort, Class, of_words, of_truth_values, comparing, ordering, class, or_width, own, own_of_class, sort_clashes, asks, refuses, if_asked, clashes, compares, has_untyped}
use Rattle.occ_parse_rules.specs.Unrolled.{Numbers, number_of, item_number, item_exp, expression}
use Rattle.occ_parse_rules.specs.Sound.{has_widths}
use Rattle.occ_parse_rules.specs.Agreement.{Known, Agrees, IsTaken, kind_of}
use Rattle.occ_parse_rules.proofs.Taken.{index_most}
use Rattle.occ_meaning.proofs.from_syntax.Widths.{same_as_itself, same_widths}

-- where an item stands for something, it names a place in scope
pub record IsHere (Γ : Sorts) (ρ : Indices) (i : Item) (s : Sort) : Type 0 where
  pub place : Place
  pub at : place_at ρ i ≡ Some place
  pub name : place.name ≡ i.name.0
  pub sort : sort_at Γ place.name place.element ≡ Some s
  pub settled : (is_none i.index || index_counts Γ i.index) ≡ true

here_from : (Γ : Sorts) (x : ℕ) (o : Option Place) (s : Sort) → sort_of_place Γ o ≡ Some s → ((p : Place) → o ≡ Some p → p.name ≡ x)
    → (p : Place) × (o ≡ Some p) × (p.name ≡ x) × (sort_at Γ p.name p.element ≡ Some s)
here_from Γ x None s h f = none_not_some h
here_from Γ x (Some p) s h f = (p, refl, f p refl, h)

placed_name : (ρ : Indices) (x : ℕ) (k : Option ℕ) (p : Place) → element_at x k ≡ Some p → p.name ≡ x
placed_name ρ x (Some k) p h = ap (λ q. q.name) (sym (some_is h))
placed_name ρ x None p h = none_not_some h

name_of_place : (ρ : Indices) (x : ℕ) (o : Option Index) (p : Place) → place_with ρ x o ≡ Some p → p.name ≡ x
name_of_place ρ x None p h = ap (λ q. q.name) (sym (some_is h))
name_of_place ρ x (Some i) p h = placed_name ρ x (index_at ρ i) p h

sort_if_some : (b : Bool) (o : Option Sort) (s : Sort) → sort_if b o ≡ Some s → (b ≡ true) × (o ≡ Some s)
sort_if_some true o s h = (refl, h)
sort_if_some false o s h = none_not_some h

pub is_here : (Γ : Sorts) (ρ : Indices) (i : Item) (s : Sort) → sort_here Γ ρ i ≡ Some s → IsHere Γ ρ i s
is_here Γ ρ i s h =
    let both = sort_if_some (is_none i.index || index_counts Γ i.index) (sort_of_place Γ (place_at ρ i)) s h in
    let found = here_from Γ i.name.0 (place_at ρ i) s both.1 (λ p e. name_of_place ρ i.name.0 i.index p e) in
    record { place = found.0; at = found.1; name = found.2; sort = found.3; settled = both.0 }

pub number_here : (N : Numbers) (Γ : Sorts) (ρ : Indices) (i : Item) (s : Sort) (h : IsHere Γ ρ i s) → item_number N ρ i ≡ N h.place.name h.place.element
number_here N Γ ρ i s h = ap (number_of N) h.at

-- the kind of an item's name
pub kind_here : (D : Known) (N : Numbers) (Γ : Sorts) (E : Environment) (ρ : Indices) (i : Item) (s : Sort) → Agrees D N Γ E → IsHere Γ ρ i s
    → E (item_number N ρ i) ≡ kind_of (Some s)
kind_here D N Γ E ρ i s a h =
    ap E (number_here N Γ ρ i s h) ∙ (a.agree h.place.name h.place.element (a.inside h.place.name h.place.element s h.sort) ∙ ap kind_of h.sort)

-- ---- widths

width_here : (D : Known) (N : Numbers) (Γ : Sorts) (E : Environment) (ρ : Indices) (i : Item) (o : Option Sort) (v : Width) → Agrees D N Γ E
    → sort_here Γ ρ i ≡ o → width_of_sort o ≡ Some v → is_width v ≡ true
width_here D N Γ E ρ i (Some (sort.Variable width)) v a e h =
    let p = is_here Γ ρ i (sort.Variable width) e in subst (λ u. is_width u ≡ true) (some_is h) (a.widths p.place.name p.place.element (sort.Variable width) p.sort)
width_here D N Γ E ρ i (Some (sort.Channel width mark)) v a e h =
    let p = is_here Γ ρ i (sort.Channel width mark) e in subst (λ u. is_width u ≡ true) (some_is h) (a.widths p.place.name p.place.element (sort.Channel width mark) p.sort)
width_here D N Γ E ρ i (Some (sort.Counter b n)) v a e h = none_not_some h
width_here D N Γ E ρ i None v a e h = none_not_some h

either_width : (a b : Option Width) (v : Width) → or_width a b ≡ Some v → ((u : Width) → a ≡ Some u → is_width u ≡ true) → ((u : Width) → b ≡ Some u → is_width u ≡ true) → is_width v ≡ true
either_width (Some u) b v h f g = subst (λ w. is_width w ≡ true) (some_is h) (f u refl)
either_width None b v h f g = g v h

class_width : (c : Class) (o : Option Width) (v : Width) → own_of_class c o ≡ Some v → (o ≡ Some v → is_width v ≡ true) → is_width v ≡ true
class_width of_words o v h f = f h
class_width of_truth_values o v h f = subst (λ w. is_width w ≡ true) (some_is h) refl
class_width comparing o v h f = subst (λ w. is_width w ≡ true) (some_is h) refl
class_width ordering o v h f = subst (λ w. is_width w ≡ true) (some_is h) refl

own_width : (D : Known) (N : Numbers) (Γ : Sorts) (E : Environment) (ρ : Indices) → Agrees D N Γ E → (e : Said) (v : Width) → has_widths e ≡ true → own Γ ρ e ≡ Some v → is_width v ≡ true
own_width D N Γ E ρ a (item i) v s h = width_here D N Γ E ρ i (sort_here Γ ρ i) v a refl h
own_width D N Γ E ρ a (numeral value) v s h = none_not_some h
own_width D N Γ E ρ a (typed value width) v s h = subst (λ w. is_width w ≡ true) (some_is h) s
own_width D N Γ E ρ a (truth b) v s h = subst (λ w. is_width w ≡ true) (some_is h) refl
own_width D N Γ E ρ a (negation e) v s h = subst (λ w. is_width w ≡ true) (some_is h) refl
own_width D N Γ E ρ a (complement e) v s h = own_width D N Γ E ρ a e v s h
own_width D N Γ E ρ a (operation op left right) v s h =
    let both = and_parts (has_widths left) (has_widths right) s in
    class_width (class op) (or_width (own Γ ρ left) (own Γ ρ right)) v h
    (λ k. either_width (own Γ ρ left) (own Γ ρ right) v k (λ u e. own_width D N Γ E ρ a left u both.0 e) (λ u e. own_width D N Γ E ρ a right u both.1 e))

-- ---- types

numeral_typed : (E : Environment) (w : Width) (v : ℕ) → is_width w ≡ true → fits w v ≡ true → type_of E (tree.numeral (bits_of w) v) ≡ Some w
numeral_typed E TruthValue v h f = false_not_true f
numeral_typed E (Word bits) v h f = if_true (is_width (Word bits) && nat_lt v (2 ^ bits)) (Some (Word bits)) None (and_from (is_width (Word bits)) (nat_lt v (2 ^ bits)) h f)

fits_less : (w : Width) (u v : ℕ) → u ≤ v → fits w v ≡ true → fits w u ≡ true
fits_less TruthValue u v h f = f
fits_less (Word bits) u v h f = lt-ltb u (2 ^ bits) (omega (arith, h, ltb-true v (2 ^ bits) f))

least_most : (v m n : ℕ) → v ≤ n → min v m ≤ n
least_most v m n h = omega (arith, h)

item_typed : (D : Known) (N : Numbers) (Γ : Sorts) (E : Environment) (ρ : Indices) (i : Item) (w : Width) (o : Option Sort) → Agrees D N Γ E → IsTaken Γ ρ → is_width w ≡ true
    → sort_here Γ ρ i ≡ o → sort_clashes w o ≡ false → type_of E (item_exp o (ρ i.name.0) (item_number N ρ i) w) ≡ Some w
item_typed D N Γ E ρ i w (Some (sort.Variable width)) a t h e c =
    let p = is_here Γ ρ i (sort.Variable width) e in
    ap variable_kind (kind_here D N Γ E ρ i (sort.Variable width) a p) ∙ ap Some (sym (same_widths w width (not-false (same_width w width) c)))
item_typed D N Γ E ρ i w (Some (sort.Channel width mark)) a t h e c = true_not_false c
item_typed D N Γ E ρ i w (Some (sort.Counter b n)) a t h e c =
    let p = is_here Γ ρ i (sort.Counter b n) e in
    let most = (index_most Γ ρ t p.place.name p.place.element b n p.sort).1 in
    numeral_typed E w (min (ρ i.name.0) 255) h (fits_less w (min (ρ i.name.0) 255) (greatest b n) (least_most (ρ i.name.0) 255 (greatest b n) (subst (λ x. ρ x ≤ greatest b n) p.name most)) (not-false (fits w (greatest b n)) c))
item_typed D N Γ E ρ i w None a t h e c = true_not_false c

two_typed : (E : Environment) (op : Op) (left right : Exp) (v w : Width) → type_of E left ≡ Some v → type_of E right ≡ Some v → type_given op v ≡ Some w
    → type_of E (tree.operation op left right) ≡ Some w
two_typed E op left right v w l r g =
    ap (λ o. type_of_two op o (type_of E right)) l ∙ (ap (type_of_two op (Some v)) r ∙ (if_true (same_width v v) (type_given op v) None (same_as_itself v) ∙ g))

-- what an operator gives to operands of the width that it asks them for
given_words : (w v : Width) → is_truth_value w ≡ false → Some w ≡ Some v → of_words' v (Some v) ≡ Some w
given_words TruthValue v h k = true_not_false h
given_words (Word bits) v h k = subst (λ u. of_words' u (Some u) ≡ Some (Word bits)) (some_is k) refl

given_truths : (w v : Width) → not (is_truth_value w) ≡ false → Some TruthValue ≡ Some v → of_truth_values' v (Some TruthValue) ≡ Some w
given_truths TruthValue v h k = subst (λ u. of_truth_values' u (Some TruthValue) ≡ Some TruthValue) (some_is k) refl
given_truths (Word bits) v h k = true_not_false h

given_equal : (w v : Width) → not (is_truth_value w) ≡ false → Some TruthValue ≡ Some w
given_equal TruthValue v h = refl
given_equal (Word bits) v h = true_not_false h

given_order : (w : Width) (operands : Option Width) (v : Width) → refuses ordering w operands ≡ false → operands ≡ Some v → of_words' v (Some TruthValue) ≡ Some w
given_order (Word bits) operands v r k = true_not_false r
given_order TruthValue operands TruthValue r k = true_not_false (sym (ap (refuses ordering TruthValue) k) ∙ r)
given_order TruthValue operands (Word bits) r k = refl

given : (op : Op) (w : Width) (operands : Option Width) (v : Width) → refuses (class op) w operands ≡ false → asks (class op) w operands ≡ Some v → type_given op v ≡ Some w
given op.Plus w operands v r k = given_words w v r k
given op.Minus w operands v r k = given_words w v r k
given op.BitAnd w operands v r k = given_words w v r k
given op.BitOr w operands v r k = given_words w v r k
given op.BitXor w operands v r k = given_words w v r k
given op.And w operands v r k = given_truths w v r k
given op.Or w operands v r k = given_truths w v r k
given op.Equal w operands v r k = given_equal w v r
given op.Differ w operands v r k = given_equal w v r
given op.Less w operands v r k = given_order w operands v r k
given op.Greater w operands v r k = given_order w operands v r k
given op.AtMost w operands v r k = given_order w operands v r k
given op.AtLeast w operands v r k = given_order w operands v r k

asked_false : (o : Option Width) (test : Width → Bool) (v : Width) → o ≡ Some v → if_asked o test ≡ false → test v ≡ false
asked_false o test v e h = sym (ap (λ u. if_asked u test) e) ∙ h

-- the width that an operator asks its operands for is settled where it doesn't compare two operands without one
settled : (c : Class) (w : Width) (operands : Option Width) → (compares c && is_none operands) ≡ false → (v : Width) × (asks c w operands ≡ Some v)
settled of_words w operands h = (w, refl)
settled of_truth_values w operands h = (TruthValue, refl)
settled comparing w (Some v) h = (v, refl)
settled comparing w None h = true_not_false h
settled ordering w (Some v) h = (v, refl)
settled ordering w None h = true_not_false h

asked_width : (c : Class) (w : Width) (operands : Option Width) (v : Width) → asks c w operands ≡ Some v → is_width w ≡ true → (operands ≡ Some v → is_width v ≡ true) → is_width v ≡ true
asked_width of_words w operands v h i f = subst (λ u. is_width u ≡ true) (some_is h) i
asked_width of_truth_values w operands v h i f = subst (λ u. is_width u ≡ true) (some_is h) refl
asked_width comparing w operands v h i f = f h
asked_width ordering w operands v h i f = f h

pub expression_typed : (D : Known) (N : Numbers) (Γ : Sorts) (E : Environment) (ρ : Indices) → Agrees D N Γ E → IsTaken Γ ρ → (e : Said) (w : Width) → is_width w ≡ true → has_widths e ≡ true
    → clashes Γ ρ e w ≡ false → has_untyped Γ ρ e ≡ false → type_of E (expression N Γ ρ e w) ≡ Some w
expression_typed D N Γ E ρ a t (item i) w h s c u = item_typed D N Γ E ρ i w (sort_here Γ ρ i) a t h refl c
expression_typed D N Γ E ρ a t (numeral value) w h s c u = numeral_typed E w value h (not-false (fits w value) c)
expression_typed D N Γ E ρ a t (typed value width) w h s c u =
    let both = or_parts (not (same_width w width)) (not (fits width value)) c in
    numeral_typed E width value s (not-false (fits width value) both.1) ∙ ap Some (sym (same_widths w width (not-false (same_width w width) both.0)))
expression_typed D N Γ E ρ a t (truth b) TruthValue h s c u = refl
expression_typed D N Γ E ρ a t (truth b) (Word bits) h s c u = true_not_false c
expression_typed D N Γ E ρ a t (negation e) TruthValue h s c u = ap if_truth_value (expression_typed D N Γ E ρ a t e TruthValue refl s c u)
expression_typed D N Γ E ρ a t (negation e) (Word bits) h s c u = true_not_false c
expression_typed D N Γ E ρ a t (complement e) TruthValue h s c u = true_not_false c
expression_typed D N Γ E ρ a t (complement e) (Word bits) h s c u = ap if_word (expression_typed D N Γ E ρ a t e (Word bits) h s c u)
expression_typed D N Γ E ρ a t (operation op left right) w h s c u =
    let operands = or_width (own Γ ρ left) (own Γ ρ right) in
    let sounds = and_parts (has_widths left) (has_widths right) s in
    let untyped = or_parts (compares (class op) && is_none operands) (has_untyped Γ ρ left || has_untyped Γ ρ right) u in
    let inner = or_parts (has_untyped Γ ρ left) (has_untyped Γ ρ right) untyped.1 in
    let ask = settled (class op) w operands untyped.0 in
    let refused = or_parts (refuses (class op) w operands) (if_asked (asks (class op) w operands) (clashes Γ ρ left) || if_asked (asks (class op) w operands) (clashes Γ ρ right)) c in
    let clash = or_parts (if_asked (asks (class op) w operands) (clashes Γ ρ left)) (if_asked (asks (class op) w operands) (clashes Γ ρ right)) refused.1 in
    let wide = asked_width (class op) w operands ask.0 ask.1 h
    (λ k. either_width (own Γ ρ left) (own Γ ρ right) ask.0 k (λ v e. own_width D N Γ E ρ a left v sounds.0 e) (λ v e. own_width D N Γ E ρ a right v sounds.1 e)) in
    subst (λ o. type_of E (tree.operation op (expression N Γ ρ left (unwrap_or o w)) (expression N Γ ρ right (unwrap_or o w))) ≡ Some w) (sym ask.1)
    (two_typed E op (expression N Γ ρ left ask.0) (expression N Γ ρ right ask.0) ask.0 w
    (expression_typed D N Γ E ρ a t left ask.0 wide sounds.0 (asked_false (asks (class op) w operands) (clashes Γ ρ left) ask.0 ask.1 clash.0) inner.0)
    (expression_typed D N Γ E ρ a t right ask.0 wide sounds.1 (asked_false (asks (class op) w operands) (clashes Γ ρ right) ask.0 ask.1 clash.1) inner.1)
    (given op w operands ask.0 refused.0 ask.1))
