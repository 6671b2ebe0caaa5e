-- The names, types and directions on the lines of a printed part are in order: expressions.
use Rattle.std.proofs.Common.{◌≡◌, ℕ, ◌<◌, ◌^◌, Bool, true, false, not, ◌&&◌, ◌||◌, eqb, nat_lt, List, [], ◌∷◌, ◌++◌, Option, None, Some, refl, ap, sym, ◌∙◌, arith}
use Rattle.std.specs.Prelude.{if◌then◌else◌, is_none}
use Rattle.std.specs.List.{AllByRecursion, list_any}
use Rattle.std.proofs.lemmas.Bool.{and_parts, and_from, lt-ltb, ltb-true}
use Rattle.occ_print.specs.occ_base.declared.width.Width.{Width}
use Rattle.occ_print.specs.occ_base.declared.width.Width.TheVariants.{Bool as TruthValue, Word}
use Rattle.occ_print.specs.occ_syntax.declared.expr.Op.{Op}
use Rattle.occ_print.specs.occ_syntax.Scopes.{Environment}
use Rattle.occ_print.specs.occ_syntax.Tree.{Exp, variable, numeral, truth, negation, complement, operation}
use Rattle.occ_print.specs.occ_syntax.Types.{same_width, is_width, type_of, if_truth_value, if_word}
use Rattle.occ_print.specs.occ_parse_forms.declared.form.Declared.{Declared}
use Rattle.occ_print.specs.occ_parse_forms.declared.form.Declared.TheVariants as declared
use Rattle.occ_print.specs.occ_parse_forms.declared.form.Item.{Item}
use Rattle.occ_parse.specs.occ_parse_rules.declared.sort.Entry.{Entry}
use Rattle.occ_parse.specs.occ_parse_rules.declared.sort.Sort.{Sort}
use Rattle.occ_parse.specs.occ_parse_rules.declared.sort.Sort.TheVariants as sort
use Rattle.occ_parse.specs.occ_parse_rules.Places.{Place, Sorts, Indices, declares, declares_some, sort_at, has_elements, values_of, with_index, taken_by, for_some_from, for_some, place_at, sort_of_place}
use Rattle.occ_parse.specs.occ_parse_rules.Names.{index_counts, is_undeclared, is_outside}
use Rattle.occ_parse.specs.occ_parse_rules.Types.{is_truth_value, fits, class, Class, of_words, of_truth_values, comparing, ordering, own, or_width, asks, refuses, if_asked, compares, sort_clashes, clashes, has_untyped}
use Rattle.occ_parse.specs.occ_parse_rules.Unrolled.{Numbers}
use Rattle.occ_print.specs.Symbols.{is_comparison, of_numerals, compares_numerals}
use Rattle.occ_print.specs.Known.{ExpIsKnown}
use Rattle.occ_print_back.specs.Said.{item_of, numeral_said, said}
use Rattle.occ_print_back.specs.Scoped.{IsNumbered, IsScope}
use Rattle.occ_print_back.proofs.Widths.{operands_of, Widths, words, truth_values, compared, ordered, widths_of, Both, both_is, both_none, both_of, own_width, variable_back}
use Rattle.occ_print.proofs.from_syntax.Widths.{same_as_itself}

-- ---- tests of indices that always fail

pub none_any : {A : Type 0} (test : A → Bool) (xs : List A) → ((x : A) → test x ≡ false) → list_any test xs ≡ false
none_any test [] h = refl
none_any test (x ∷ xs) h = ap (λ b. b || list_any test xs) (h x) ∙ none_any test xs h

taken_never : (d : Declared) (s : Sort) (test : Indices → Bool) → ((ρ : Indices) → test ρ ≡ false) → (ρ : Indices) → taken_by d s test ρ ≡ false
taken_never (declared.Plain i) (sort.Counter b n) test h ρ = none_any (λ v. test (with_index ρ i.0 v)) (values_of b n) (λ v. h (with_index ρ i.0 v))
taken_never (declared.Plain i) (sort.Variable w) test h ρ = h ρ
taken_never (declared.Plain i) (sort.Channel w m) test h ρ = h ρ
taken_never (declared.Element i k) s test h ρ = h ρ
taken_never (declared.Array i k) s test h ρ = h ρ

never_from : (Γ : Sorts) (test : Indices → Bool) → ((ρ : Indices) → test ρ ≡ false) → (ρ : Indices) → for_some_from Γ test ρ ≡ false
never_from [] test h ρ = h ρ
never_from (entry ∷ Γ) test h ρ = never_from Γ (taken_by entry.declared entry.sort test) (taken_never entry.declared entry.sort test h) ρ

pub never : (Γ : Sorts) (test : Indices → Bool) → ((ρ : Indices) → test ρ ≡ false) → for_some Γ test ≡ false
never Γ test h = never_from Γ test h (λ i. 0)

-- ---- types

truth_from : (t : Option Width) (w : Width) → if_truth_value t ≡ Some w → (w ≡ TruthValue) × (t ≡ Some TruthValue)
truth_from (Some TruthValue) w h = (cc, refl)
truth_from (Some (Word b)) w h = absurd (cc)
truth_from None w h = absurd (cc)

word_from : (t : Option Width) (w : Width) → if_word t ≡ Some w → (is_truth_value w ≡ false) × (t ≡ Some w)
word_from (Some (Word b)) w h = let e : w ≡ Word b = cc in (ap is_truth_value e, h)
word_from (Some TruthValue) w h = absurd (cc)
word_from None w h = absurd (cc)

module _ (count : ℕ) (P : ℕ → Place) (N : Numbers) (numbered : IsNumbered count P N) (E : Environment) (Γ : Sorts) (scope : IsScope count P E Γ) (ρ : Indices) where
  numeral_clashes : (wide : Bool) (bits v : ℕ) (w : Width) (t : Bool) → (is_width (Word bits) && nat_lt v (2 ^ bits)) ≡ t → (if t then Some (Word bits) else None) ≡ Some w
      → clashes Γ ρ (numeral_said wide bits v) w ≡ false
  numeral_clashes wide bits v w false h e = absurd (cc)
  numeral_clashes false bits v w true h e =
      let f : w ≡ Word bits = cc in
      ap (λ u. not (fits u v)) f ∙ ap not (and_parts (is_width (Word bits)) (nat_lt v (2 ^ bits)) h).1
  numeral_clashes true bits v w true h e =
      let f : w ≡ Word bits = cc in
      ap (λ u. not (same_width u (Word bits)) || not (nat_lt v (2 ^ bits))) f
      ∙ ap (λ b. not b || not (nat_lt v (2 ^ bits))) (same_as_itself (Word bits)) ∙ ap not (and_parts (is_width (Word bits)) (nat_lt v (2 ^ bits)) h).1

  abbrev operands : Bool → Exp → Exp → Option Width
  operands wide left right = or_width (own Γ ρ (said P wide left)) (own Γ ρ (said P wide right))

  -- operands of a comparison have a width
  compared_width : (wide : Bool) (o : Op) (left right : Exp) (a : Width) → is_comparison o ≡ true
      → Both count P N numbered E Γ scope ρ (wide || compares_numerals o left right) left right a → operands (wide || compares_numerals o left right) left right ≡ Some a
  compared_width wide o left right a c (both_is h) = h
  compared_width true o left right a c (both_none h g i j) = absurd (cc)
  compared_width false o left right a c (both_none h g i j) =
      let k : compares_numerals o left right ≡ true = ap (λ t. t && (of_numerals left && of_numerals right)) c ∙ ap (λ t. t && of_numerals right) i ∙ j in
      absurd (cc)

  -- what an operator refuses, and what it asks its operands for
  pub record Asked (o : Op) (wide : Bool) (left right : Exp) (a w : Width) : Type 0 where
    pub accepts : refuses (class o) w (operands wide left right) ≡ false
    pub asks_for : asks (class o) w (operands wide left right) ≡ Some a
    pub has_width : (compares (class o) && is_none (operands wide left right)) ≡ false

  asked_at : (k : Class) (o : Op) (wide : Bool) (left right : Exp) (a w : Width) → class o ≡ k → refuses k w (operands wide left right) ≡ false
      → asks k w (operands wide left right) ≡ Some a → (compares k && is_none (operands wide left right)) ≡ false → Asked o wide left right a w
  asked_at k o wide left right a w c r s t = record {
    accepts = ap (λ d. refuses d w (operands wide left right)) c ∙ r;
    asks_for = ap (λ d. asks d w (operands wide left right)) c ∙ s;
    has_width = ap (λ d. compares d && is_none (operands wide left right)) c ∙ t;
  }

  asked : (wide : Bool) (o : Op) (left right : Exp) (a w : Width) → Widths o a w → Both count P N numbered E Γ scope ρ (wide || compares_numerals o left right) left right a
      → Asked o (wide || compares_numerals o left right) left right a w
  asked wide o left right a w (words c g n bits e f) b =
      asked_at of_words o _ left right a w c (ap is_truth_value f) (ap Some (f ∙ sym e)) refl
  asked wide o left right a w (truth_values c g n e f) b =
      asked_at of_truth_values o _ left right a w c (ap (λ u. not (is_truth_value u)) f) (ap Some (sym e)) refl
  asked wide o left right a w (compared c g n f) b =
      let v = compared_width wide o left right a n b in
      asked_at comparing o _ left right a w c (ap (λ u. not (is_truth_value u)) f) v (ap is_none v)
  asked wide o left right a w (ordered c g n bits e f) b =
      let v = compared_width wide o left right a n b in
      asked_at ordering o _ left right a w c
      (ap (λ u. refuses ordering u (operands (wide || compares_numerals o left right) left right)) f ∙ ap (refuses ordering TruthValue) v ∙ ap is_truth_value e) v (ap is_none v)

  pub exp_clashes : (wide : Bool) (e : Exp) (w : Width) → ExpIsKnown count e → type_of E e ≡ Some w → clashes Γ ρ (said P wide e) w ≡ false
  exp_clashes wide (variable x) w h e = ap (sort_clashes w) (variable_back count P N numbered E Γ scope ρ x w h e) ∙ ap not (same_as_itself w)
  exp_clashes wide (numeral bits v) w h e = numeral_clashes wide bits v w (is_width (Word bits) && nat_lt v (2 ^ bits)) refl e
  exp_clashes wide (truth b) w h e = let f : w ≡ TruthValue = cc in ap (λ u. not (is_truth_value u)) f
  exp_clashes wide (negation e) w h k =
      let t = truth_from (type_of E e) w k in
      ap (λ u. not (is_truth_value u) || clashes Γ ρ (said P wide e) TruthValue) t.0 ∙ exp_clashes wide e TruthValue h t.1
  exp_clashes wide (complement e) w h k =
      let t = word_from (type_of E e) w k in
      ap (λ b. b || clashes Γ ρ (said P wide e) w) t.0 ∙ exp_clashes wide e w h t.1
  exp_clashes wide (operation o left right) w h k =
      let p = operands_of o (type_of E left) (type_of E right) w k in
      let v = wide || compares_numerals o left right in
      let q = both_of count P N numbered E Γ scope ρ v left right p.width (own_width count P N numbered E Γ scope ρ v left p.width h.0 p.left_is) (own_width count P N numbered E Γ scope ρ v right p.width h.1 p.right_is) in
      let r = asked wide o left right p.width w (widths_of o p.width w p.given) q in
      ap (λ b. b || (if_asked (asks (class o) w (operands v left right)) (clashes Γ ρ (said P v left)) || if_asked (asks (class o) w (operands v left right)) (clashes Γ ρ (said P v right)))) r.accepts
      ∙ ap (λ u. if_asked u (clashes Γ ρ (said P v left)) || if_asked u (clashes Γ ρ (said P v right))) r.asks_for
      ∙ ap (λ b. b || clashes Γ ρ (said P v right) p.width) (exp_clashes v left p.width h.0 p.left_is) ∙ exp_clashes v right p.width h.1 p.right_is

  numeral_untyped : (wide : Bool) (bits v : ℕ) → has_untyped Γ ρ (numeral_said wide bits v) ≡ false
  numeral_untyped false bits v = refl
  numeral_untyped true bits v = refl

  pub exp_typed : (wide : Bool) (e : Exp) (w : Width) → ExpIsKnown count e → type_of E e ≡ Some w → has_untyped Γ ρ (said P wide e) ≡ false
  exp_typed wide (variable x) w h e = refl
  exp_typed wide (numeral bits v) w h e = numeral_untyped wide bits v
  exp_typed wide (truth b) w h e = refl
  exp_typed wide (negation e) w h k = exp_typed wide e TruthValue h (truth_from (type_of E e) w k).1
  exp_typed wide (complement e) w h k = exp_typed wide e w h (word_from (type_of E e) w k).1
  exp_typed wide (operation o left right) w h k =
      let p = operands_of o (type_of E left) (type_of E right) w k in
      let v = wide || compares_numerals o left right in
      let q = both_of count P N numbered E Γ scope ρ v left right p.width (own_width count P N numbered E Γ scope ρ v left p.width h.0 p.left_is) (own_width count P N numbered E Γ scope ρ v right p.width h.1 p.right_is) in
      let r = asked wide o left right p.width w (widths_of o p.width w p.given) q in
      ap (λ b. b || (has_untyped Γ ρ (said P v left) || has_untyped Γ ρ (said P v right))) r.has_width
      ∙ ap (λ b. b || has_untyped Γ ρ (said P v right)) (exp_typed v left p.width h.0 p.left_is) ∙ exp_typed v right p.width h.1 p.right_is

-- ---- names

declared_some : (d : Declared) (y k : ℕ) → declares d y (Some k) ≡ true → declares_some d y ≡ true
declared_some (declared.Plain x) y k h = absurd (cc)
declared_some (declared.Element x j) y k h = (and_parts (eqb y x.0) (eqb k j) h).0
declared_some (declared.Array x n) y k h =
    let parts = and_parts (eqb y x.0) (nat_lt k n) h in
    let less : k < n = ltb-true _ _ parts.1 in
    and_from (eqb y x.0) (nat_lt 0 n) parts.0 (lt-ltb 0 n (omega (arith, less)))

or-right : (a b : Bool) → b ≡ true → (a || b) ≡ true
or-right true b h = refl
or-right false b h = h

elements_at : (entry : Entry) (Γ : Sorts) (y k : ℕ) (s : Sort) (b : Bool) → declares entry.declared y (Some k) ≡ b → (if b then Some entry.sort else sort_at Γ y (Some k)) ≡ Some s
    → (sort_at Γ y (Some k) ≡ Some s → has_elements Γ y ≡ true) → has_elements (entry ∷ Γ) y ≡ true
elements_at entry Γ y k s true h e next = ap (λ b. b || has_elements Γ y) (declared_some entry.declared y k h)
elements_at entry Γ y k s false h e next = or-right (declares_some entry.declared y) _ (next e)

elements_there : (Γ : Sorts) (y k : ℕ) (s : Sort) → sort_at Γ y (Some k) ≡ Some s → has_elements Γ y ≡ true
elements_there [] y k s e = absurd (cc)
elements_there (entry ∷ Γ) y k s e = elements_at entry Γ y k s (declares entry.declared y (Some k)) refl e (elements_there Γ y k s)

module _ (Γ : Sorts) where
  declared_here : (y : ℕ) (j : Option ℕ) (s : Sort) → sort_at Γ y j ≡ Some s → is_undeclared Γ (item_of (record { name = y; element = j })) ≡ false
  declared_here y None s e = ap is_none e
  declared_here y (Some k) s e = ap (λ b. not b || false) (elements_there Γ y k s e)

  inside_here : (y : ℕ) (j : Option ℕ) (s : Sort) → sort_at Γ y j ≡ Some s → is_outside Γ (item_of (record { name = y; element = j })) ≡ false
  inside_here y None s e = refl
  inside_here y (Some k) s e = never Γ (λ ρ. is_none (sort_of_place Γ (place_at ρ (item_of (record { name = y; element = Some k }))))) (λ ρ. ap is_none e)

  counts_here : (y : ℕ) (j : Option ℕ) → not (is_none (item_of (record { name = y; element = j })).index || index_counts Γ (item_of (record { name = y; element = j })).index) ≡ false
  counts_here y None = refl
  counts_here y (Some k) = refl

  -- an item that is in order
  pub record IsItem (i : Item) : Type 0 where
    pub declared : is_undeclared Γ i ≡ false
    pub inside : is_outside Γ i ≡ false
    pub counts : not (is_none i.index || index_counts Γ i.index) ≡ false

  pub item_at : (p : Place) (s : Sort) → sort_at Γ p.name p.element ≡ Some s → IsItem (item_of p)
  item_at p s e = record { declared = declared_here p.name p.element s e; inside = inside_here p.name p.element s e; counts = counts_here p.name p.element }

  abbrev pub AreItems : List Item → Type 0
  AreItems items = AllByRecursion IsItem items

  pub items-append : (xs ys : List Item) → AreItems xs → AreItems ys → AreItems (xs ++ ys)
  items-append [] ys h k = k
  items-append (x ∷ xs) ys h k = (h.0, items-append xs ys h.1 k)

  pub none_undeclared : (items : List Item) → AreItems items → list_any (is_undeclared Γ) items ≡ false
  none_undeclared [] h = refl
  none_undeclared (i ∷ items) h = ap (λ b. b || list_any (is_undeclared Γ) items) h.0.declared ∙ none_undeclared items h.1

  pub none_outside : (items : List Item) → AreItems items → list_any (is_outside Γ) items ≡ false
  none_outside [] h = refl
  none_outside (i ∷ items) h = ap (λ b. b || list_any (is_outside Γ) items) h.0.inside ∙ none_outside items h.1

  pub none_lost : (items : List Item) → AreItems items → list_any (λ i. not (is_none i.index || index_counts Γ i.index)) items ≡ false
  none_lost [] h = refl
  none_lost (i ∷ items) h = ap (λ b. b || list_any (λ j. not (is_none j.index || index_counts Γ j.index)) items) h.0.counts ∙ none_lost items h.1
