-- The widths that are asked for in printed expressions are those of the program's.
use Rattle.std.proofs.Common.{◌≡◌, ℕ, ◌<◌, Bool, true, false, ◌&&◌, ◌||◌, Option, None, Some, refl, ap, sym, ◌∙◌, subst}
use Rattle.std.specs.Prelude.{unwrap_or, if◌then◌else◌}
use Rattle.occ_print.specs.occ_base.declared.width.Width.{Width}
use Rattle.occ_print.specs.occ_base.declared.width.Width.TheVariants.{Bool as TruthValue, Word}
use Rattle.occ_print.specs.occ_base.Width.{bits_of}
use Rattle.occ_print.specs.occ_syntax.declared.expr.Op.{Op}
use Rattle.occ_print.specs.occ_syntax.declared.expr.Op.TheVariants as op
use Rattle.occ_print.specs.occ_syntax.declared.scope.Kind.{Kind}
use Rattle.occ_print.specs.occ_syntax.declared.scope.Kind.TheVariants as kind
use Rattle.occ_print.specs.occ_syntax.Scopes.{Environment, variable_kind, variable_width}
use Rattle.occ_print.specs.occ_syntax.Tree.{Exp, variable, numeral, truth, negation, complement, operation}
use Rattle.occ_print.specs.occ_syntax.Types.{same_width, type_given, type_of_two, if_truth_value, if_word, type_of}
use Rattle.occ_print.specs.occ_parse_forms.Shape.{Said}
use Rattle.occ_print.specs.occ_parse_forms.Shape as line
use Rattle.occ_parse.specs.occ_parse_rules.declared.sort.Sort.TheVariants as sort
use Rattle.occ_parse.specs.occ_parse_rules.Places.{Place, Sorts, Indices, sort_at}
use Rattle.occ_parse.specs.occ_parse_rules.Types.{class, of_words, of_truth_values, comparing, ordering, own, own_of_class, or_width, asks, width_of_sort, sort_here}
use Rattle.occ_parse.specs.occ_parse_rules.Unrolled.{Numbers, item_number, item_exp, expression}
use Rattle.occ_print.specs.Symbols.{gives_word, is_comparison, of_numerals, compares_numerals}
use Rattle.occ_print.specs.Known.{ExpIsKnown}
use Rattle.occ_print_back.specs.Said.{item_of, numeral_said, said}
use Rattle.occ_print_back.specs.Scoped.{IsNumbered, IsScope, sort_in}
use Rattle.occ_print.proofs.from_syntax.Widths.{same_widths}

-- ---- what the types of two operands say

pub record Operands (o : Op) (left right : Option Width) (w : Width) : Type 0 where
  pub width : Width
  pub left_is : left ≡ Some width
  pub right_is : right ≡ Some width
  pub given : type_given o width ≡ Some w

operands_if : (o : Op) (a b w : Width) (t : Bool) → same_width a b ≡ t → (if t then type_given o a else None) ≡ Some w → Operands o (Some a) (Some b) w
operands_if o a b w true h e = record { width = a; left_is = refl; right_is = ap Some (sym (same_widths a b h)); given = e }
operands_if o a b w false h e = absurd (cc)

pub operands_of : (o : Op) (left right : Option Width) (w : Width) → type_of_two o left right ≡ Some w → Operands o left right w
operands_of o (Some a) (Some b) w e = operands_if o a b w (same_width a b) refl e
operands_of o (Some a) None w e = absurd (cc)
operands_of o None right w e = absurd (cc)

-- what the class of an operator says of the widths
pub data Widths (o : Op) (a w : Width) : Type 0 where
  words : class o ≡ of_words → gives_word o ≡ true → is_comparison o ≡ false → (bits : ℕ) → a ≡ Word bits → w ≡ Word bits → Widths o a w
  truth_values : class o ≡ of_truth_values → gives_word o ≡ false → is_comparison o ≡ false → a ≡ TruthValue → w ≡ TruthValue → Widths o a w
  compared : class o ≡ comparing → gives_word o ≡ false → is_comparison o ≡ true → w ≡ TruthValue → Widths o a w
  ordered : class o ≡ ordering → gives_word o ≡ false → is_comparison o ≡ true → (bits : ℕ) → a ≡ Word bits → w ≡ TruthValue → Widths o a w

some_is : {A : Type 0} (a b : A) → Some a ≡ Some b → a ≡ b
some_is a b e = cc

pub widths_of : (o : Op) (a w : Width) → type_given o a ≡ Some w → Widths o a w
widths_of op.Plus (Word b) w e = words refl refl refl b refl (sym (some_is _ _ e))
widths_of op.Minus (Word b) w e = words refl refl refl b refl (sym (some_is _ _ e))
widths_of op.BitAnd (Word b) w e = words refl refl refl b refl (sym (some_is _ _ e))
widths_of op.BitOr (Word b) w e = words refl refl refl b refl (sym (some_is _ _ e))
widths_of op.BitXor (Word b) w e = words refl refl refl b refl (sym (some_is _ _ e))
widths_of op.And TruthValue w e = truth_values refl refl refl refl (sym (some_is _ _ e))
widths_of op.Or TruthValue w e = truth_values refl refl refl refl (sym (some_is _ _ e))
widths_of op.Equal a w e = compared refl refl refl (sym (some_is _ _ e))
widths_of op.Differ a w e = compared refl refl refl (sym (some_is _ _ e))
widths_of op.Less (Word b) w e = ordered refl refl refl b refl (sym (some_is _ _ e))
widths_of op.Greater (Word b) w e = ordered refl refl refl b refl (sym (some_is _ _ e))
widths_of op.AtMost (Word b) w e = ordered refl refl refl b refl (sym (some_is _ _ e))
widths_of op.AtLeast (Word b) w e = ordered refl refl refl b refl (sym (some_is _ _ e))
widths_of o a w e = absurd (cc)

-- ---- names

pub variable_sort_is : (k : Option Kind) (w : Width) → variable_kind k ≡ Some w → sort_in k ≡ Some (sort.Variable w)
variable_sort_is None w e = absurd (cc)
variable_sort_is (Some (kind.Var v)) w e = ap (λ u. Some (sort.Variable u)) (some_is v w e)
variable_sort_is (Some (kind.Chan v d)) w e = absurd (cc)

here_at : (Γ : Sorts) (ρ : Indices) (x : ℕ) (k : Option ℕ) → sort_here Γ ρ (item_of (record { name = x; element = k })) ≡ sort_at Γ x k
here_at Γ ρ x None = refl
here_at Γ ρ x (Some k) = refl

pub here_is : (Γ : Sorts) (ρ : Indices) (p : Place) → sort_here Γ ρ (item_of p) ≡ sort_at Γ p.name p.element
here_is Γ ρ p = here_at Γ ρ p.name p.element

number_at : (N : Numbers) (ρ : Indices) (x : ℕ) (k : Option ℕ) → item_number N ρ (item_of (record { name = x; element = k })) ≡ N x k
number_at N ρ x None = refl
number_at N ρ x (Some k) = refl

pub number_is : (N : Numbers) (ρ : Indices) (p : Place) → item_number N ρ (item_of p) ≡ N p.name p.element
number_is N ρ p = number_at N ρ p.name p.element

module _ (count : ℕ) (P : ℕ → Place) (N : Numbers) (numbered : IsNumbered count P N) (E : Environment) (Γ : Sorts) (scope : IsScope count P E Γ) (ρ : Indices) where
  pub item_back : (x : ℕ) → x < count → item_number N ρ (item_of (P x)) ≡ x
  item_back x h = number_is N ρ (P x) ∙ numbered x h

  pub sort_back : (x : ℕ) → x < count → sort_here Γ ρ (item_of (P x)) ≡ sort_in (E x)
  sort_back x h = here_is Γ ρ (P x) ∙ scope x h

  pub variable_back : (x : ℕ) (w : Width) → x < count → variable_width E x ≡ Some w → sort_here Γ ρ (item_of (P x)) ≡ Some (sort.Variable w)
  variable_back x w h e = sort_back x h ∙ variable_sort_is (E x) w e

  -- The width that a printed expression has of its own: its type, or none where it is made of numerals without their widths.
  pub data OwnWidth (wide : Bool) (e : Exp) (w : Width) : Type 0 where
    own_is : own Γ ρ (said P wide e) ≡ Some w → OwnWidth wide e w
    own_none : own Γ ρ (said P wide e) ≡ None → wide ≡ false → of_numerals e ≡ true → OwnWidth wide e w

  own_complement : (wide : Bool) (e : Exp) (w : Width) → OwnWidth wide e w → OwnWidth wide (complement e) w
  own_complement wide e w (own_is h) = own_is h
  own_complement wide e w (own_none h f g) = own_none h f g

  -- two operands together
  pub data Both (wide : Bool) (left right : Exp) (w : Width) : Type 0 where
    both_is : or_width (own Γ ρ (said P wide left)) (own Γ ρ (said P wide right)) ≡ Some w → Both wide left right w
    both_none : or_width (own Γ ρ (said P wide left)) (own Γ ρ (said P wide right)) ≡ None → wide ≡ false → of_numerals left ≡ true → of_numerals right ≡ true → Both wide left right w

  pub both_of : (wide : Bool) (left right : Exp) (w : Width) → OwnWidth wide left w → OwnWidth wide right w → Both wide left right w
  both_of wide left right w (own_is h) k = both_is (ap (λ o. or_width o (own Γ ρ (said P wide right))) h)
  both_of wide left right w (own_none h f g) (own_is k) = both_is (ap (λ o. or_width o (own Γ ρ (said P wide right))) h ∙ k)
  both_of wide left right w (own_none h f g) (own_none k i j) = both_none (ap (λ o. or_width o (own Γ ρ (said P wide right))) h ∙ k) f g j

  -- the operands' flag is the operator's, unless a comparison sets it
  flag_same : (wide : Bool) (o : Op) (left right : Exp) → is_comparison o ≡ false → (wide || compares_numerals o left right) ≡ wide
  flag_same true o left right h = refl
  flag_same false o left right h = ap (λ t. t && (of_numerals left && of_numerals right)) h

  own_of_words : (wide : Bool) (o : Op) (left right : Exp) (w : Width) → class o ≡ of_words → gives_word o ≡ true → is_comparison o ≡ false
      → Both wide left right w → OwnWidth wide (operation o left right) w
  own_of_words wide o left right w c g n (both_is h) =
      own_is (ap (λ (v : Bool). own Γ ρ (line.operation o (said P v left) (said P v right))) (flag_same wide o left right n)
      ∙ ap (λ k. own_of_class k (or_width (own Γ ρ (said P wide left)) (own Γ ρ (said P wide right)))) c ∙ h)
  own_of_words wide o left right w c g n (both_none h f i j) =
      own_none (ap (λ (v : Bool). own Γ ρ (line.operation o (said P v left) (said P v right))) (flag_same wide o left right n)
      ∙ ap (λ k. own_of_class k (or_width (own Γ ρ (said P wide left)) (own Γ ρ (said P wide right)))) c ∙ h) f
      (ap (λ t. t && (of_numerals left && of_numerals right)) g ∙ ap (λ t. t && of_numerals right) i ∙ j)

  own_of_truth : (wide : Bool) (o : Op) (left right : Exp) (w : Width) → ((k : Option Width) → own_of_class (class o) k ≡ Some TruthValue) → w ≡ TruthValue
      → OwnWidth wide (operation o left right) w
  own_of_truth wide o left right w f e = own_is (f _ ∙ ap Some (sym e))

  own_numeral : (wide : Bool) (bits v : ℕ) (w : Width) (t : Bool) → (if t then Some (Word bits) else None) ≡ Some w → OwnWidth wide (numeral bits v) w
  own_numeral true bits v w true e = own_is e
  own_numeral false bits v w true e = own_none refl refl refl
  own_numeral wide bits v w false e = absurd (cc)

  own_negation : (wide : Bool) (e : Exp) (w : Width) (t : Option Width) → if_truth_value t ≡ Some w → OwnWidth wide (negation e) w
  own_negation wide e w (Some TruthValue) h = own_is h
  own_negation wide e w (Some (Word b)) h = absurd (cc)
  own_negation wide e w None h = absurd (cc)

  pub word_of : (t : Option Width) (w : Width) → if_word t ≡ Some w → (bits : ℕ) × (w ≡ Word bits) × (t ≡ Some w)
  word_of (Some (Word b)) w h = (b, sym (some_is _ _ h), h)
  word_of (Some TruthValue) w h = absurd (cc)
  word_of None w h = absurd (cc)

  pub truth_of : (t : Option Width) (w : Width) → if_truth_value t ≡ Some w → (w ≡ TruthValue) × (t ≡ Some TruthValue)
  truth_of (Some TruthValue) w h = (sym (some_is _ _ h), refl)
  truth_of (Some (Word b)) w h = absurd (cc)
  truth_of None w h = absurd (cc)

  own_two : (wide : Bool) (o : Op) (left right : Exp) (a w : Width) → Widths o a w → Both wide left right a → OwnWidth wide (operation o left right) w
  own_two wide o left right a w (words c g n bits e f) b =
      own_of_words wide o left right w c g n (let Q : Width → Type 0 = Both wide left right in subst Q (e ∙ sym f) b)
  own_two wide o left right a w (truth_values c g n e f) b = own_of_truth wide o left right w (λ k. ap (λ d. own_of_class d k) c) f
  own_two wide o left right a w (compared c g n f) b = own_of_truth wide o left right w (λ k. ap (λ d. own_of_class d k) c) f
  own_two wide o left right a w (ordered c g n bits e f) b = own_of_truth wide o left right w (λ k. ap (λ d. own_of_class d k) c) f

  pub own_width : (wide : Bool) (e : Exp) (w : Width) → ExpIsKnown count e → type_of E e ≡ Some w → OwnWidth wide e w
  own_width wide (variable x) w h e = own_is (ap width_of_sort (variable_back x w h e))
  own_width wide (numeral bits v) w h e = own_numeral wide bits v w _ e
  own_width wide (truth b) w h e = own_is e
  own_width wide (negation e) w h k = own_negation wide e w (type_of E e) k
  own_width wide (complement e) w h k = own_complement wide e w (own_width wide e w h (word_of (type_of E e) w k).2)
  own_width wide (operation o left right) w h k =
      let p = operands_of o (type_of E left) (type_of E right) w k in
      own_two wide o left right p.width w (widths_of o p.width w p.given)
      (both_of wide left right p.width (own_width wide left p.width h.0 p.left_is) (own_width wide right p.width h.1 p.right_is))

  -- ---- the width that an operator asks its operands for is theirs

  asked_if : (wide : Bool) (o : Op) (left right : Exp) (a w : Width) → is_comparison o ≡ true → ((k : Option Width) → asks (class o) w k ≡ k)
      → Both (wide || compares_numerals o left right) left right a
      → unwrap_or (asks (class o) w (or_width (own Γ ρ (said P (wide || compares_numerals o left right) left)) (own Γ ρ (said P (wide || compares_numerals o left right) right)))) w ≡ a
  asked_if wide o left right a w c f (both_is h) = ap (λ k. unwrap_or k w) (f _ ∙ h)
  asked_if true o left right a w c f (both_none h g i j) = absurd (cc)
  asked_if false o left right a w c f (both_none h g i j) =
      let k : compares_numerals o left right ≡ true = ap (λ t. t && (of_numerals left && of_numerals right)) c ∙ ap (λ t. t && of_numerals right) i ∙ j in
      absurd (cc)

  abbrev together : Bool → Exp → Exp → Option Width
  together wide left right = or_width (own Γ ρ (said P wide left)) (own Γ ρ (said P wide right))

  pub asked_is : (wide : Bool) (o : Op) (left right : Exp) (a w : Width) → Widths o a w → Both (wide || compares_numerals o left right) left right a
      → unwrap_or (asks (class o) w (or_width (own Γ ρ (said P (wide || compares_numerals o left right) left)) (own Γ ρ (said P (wide || compares_numerals o left right) right)))) w ≡ a
  asked_is wide o left right a w (words c g n bits e f) b = ap (λ k. unwrap_or (asks k w (together (wide || compares_numerals o left right) left right)) w) c ∙ f ∙ sym e
  asked_is wide o left right a w (truth_values c g n e f) b = ap (λ k. unwrap_or (asks k w (together (wide || compares_numerals o left right) left right)) w) c ∙ sym e
  asked_is wide o left right a w (compared c g n f) b = asked_if wide o left right a w n (λ k. ap (λ d. asks d w k) c) b
  asked_is wide o left right a w (ordered c g n bits e f) b = asked_if wide o left right a w n (λ k. ap (λ d. asks d w k) c) b

  expression_numeral : (wide : Bool) (bits v : ℕ) (w : Width) (t : Bool) → (if t then Some (Word bits) else None) ≡ Some w
      → expression N Γ ρ (numeral_said wide bits v) w ≡ numeral bits v
  expression_numeral true bits v w true e = refl
  expression_numeral false bits v w true e = ap (λ u. numeral (bits_of u) v) (sym (some_is _ _ e))
  expression_numeral wide bits v w false e = absurd (cc)

  -- a printed expression stands for the expression
  pub expression_back : (wide : Bool) (e : Exp) (w : Width) → ExpIsKnown count e → type_of E e ≡ Some w → expression N Γ ρ (said P wide e) w ≡ e
  expression_back wide (variable x) w h e =
      ap (λ s. item_exp s (ρ (P x).name) (item_number N ρ (item_of (P x))) w) (variable_back x w h e) ∙ ap variable (item_back x h)
  expression_back wide (numeral bits v) w h e = expression_numeral wide bits v w _ e
  expression_back wide (truth b) w h e = refl
  expression_back wide (negation e) w h k = ap negation (expression_back wide e TruthValue h (truth_of (type_of E e) w k).1)
  expression_back wide (complement e) w h k = ap complement (expression_back wide e w h (word_of (type_of E e) w k).2)
  expression_back wide (operation o left right) w h k =
      let p = operands_of o (type_of E left) (type_of E right) w k in
      let v = wide || compares_numerals o left right in
      let q = both_of v left right p.width (own_width v left p.width h.0 p.left_is) (own_width v right p.width h.1 p.right_is) in
      let r = asked_is wide o left right p.width w (widths_of o p.width w p.given) q in
      ap (λ u. operation o (expression N Γ ρ (said P v left) u) (expression N Γ ρ (said P v right) u)) r
      ∙ ap (λ d. operation o d (expression N Γ ρ (said P v right) p.width)) (expression_back v left p.width h.0 p.left_is)
      ∙ ap (λ d. operation o left d) (expression_back v right p.width h.1 p.right_is)
