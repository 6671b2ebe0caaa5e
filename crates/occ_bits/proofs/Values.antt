-- The values of expressions as words: types, digits and states.
use Rattle.std.proofs.Common.{◌≡◌, ℕ, ◌+◌, ◌-◌, ◌*◌, ◌/◌, ◌%◌, ◌^◌, ◌<◌, ◌≤◌, ◌==◌, Bool, true, false, ◌&&◌, nat_lt, if◌then◌else◌, List, [], ◌∷◌, length, get_or, Option, Some, None, IsSome, refl, sym, ap, ◌∙◌, subst, arith}
use Rattle.std.specs.Int.{bit_at}
use Rattle.std.proofs.Math.Nat.{mod-lt}
use Rattle.std.proofs.lemmas.Bool.{and_parts}
use Rattle.std.proofs.lemmas.Nat.{pow_pos}
use Rattle.occ_dd.specs.occ_base.declared.names.Name.{Name}
use Rattle.occ_dd.specs.occ_base.declared.width.Width.{Width}
use Rattle.occ_dd.specs.occ_base.declared.width.Width.TheVariants.{Bool as TruthValue, Word}
use Rattle.occ_dd.specs.occ_base.Width.{bits_of}
use Rattle.occ_dd.specs.Store.{has, IsKnown, IsSet}
use Rattle.occ_dd.specs.declared.set.SetId.{SetId}
use Rattle.occ_dd.specs.declared.store.Store.{Store}
use Rattle.occ_syntax.proofs.Widths.{variable_is_wide, variable_within, width_within}
use Rattle.occ_meaning.proofs.Facts.{some_is, none_not_some}
use Rattle.occ_meaning.proofs.Typing.{bits_of_type, condition_type, truth_type, two_types, word_type}
use Rattle.occ_syntax.specs.declared.expr.Op.{Op}
use Rattle.occ_syntax.specs.declared.expr.Op.TheVariants.{Plus, Minus, And, Or, BitAnd, BitOr, BitXor, Equal, Differ, Less, Greater, AtMost, AtLeast}
use Rattle.occ_syntax.specs.declared.scope.Kind.{Kind}
use Rattle.occ_syntax.specs.Eval.{applied, bits_in, bits_of_exp, keeps_width}
use Rattle.occ_syntax.specs.Scopes.{Environment, environment, variable_width}
use Rattle.occ_syntax.specs.Tree.{Exp, variable, numeral, truth, negation, complement, operation}
use Rattle.occ_syntax.specs.Types.{is_condition, is_width, of_truth_values, of_words, scope_kept, type_given, type_of}
use Rattle.occ_bits.specs.Circuits.{HasBits, digits_of, no_set}
use Rattle.occ_bits.specs.Layout.{IsLayout, environment_in, entry_of, scope_in, state_of}
use Rattle.occ_bits.specs.Words.{IsValue, IsWord, number_at, value_at}
use Rattle.occ_bits.proofs.Arithmetic.{bit_is_one, higher_bit, low_bit}
use Rattle.occ_bits.proofs.Laid.{found_state, found_width, missing}
use Rattle.occ_bits.proofs.Numbers.{word_from_bits}

-- ---- types
pub some_type : (o : Option Width) → IsSome o → (w : Width) × (o ≡ Some w)
some_type None h = absurd (cc)
some_type (Some w) h = (w, refl)

pub no_type : (o : Option Width) → o ≡ None → IsSome o → ⊥
no_type None e h = cc
no_type (Some w) e h = absurd (cc)

if_some : {A : Type 0} (b : Bool) (o : Option A) (a : A) → (if b then o else None) ≡ Some a → (b ≡ true) × (o ≡ Some a)
if_some true o a h = (refl, h)
if_some false o a h = none_not_some h

words_given : (v : Width) (g : Option Width) (w : Width) → of_words v g ≡ Some w → g ≡ Some w
words_given (Word bits) g w h = h
words_given TruthValue g w h = none_not_some h

truths_given : (v : Width) (g : Option Width) (w : Width) → of_truth_values v g ≡ Some w → (v ≡ TruthValue) × (g ≡ Some w)
truths_given TruthValue g w h = (refl, h)
truths_given (Word bits) g w h = none_not_some h

wide_as : (v w : Width) → Some v ≡ Some w → is_width v ≡ true → is_width w ≡ true
wide_as v w e h = subst (λ u. is_width u ≡ true) (some_is e) h

given_wide : (op : Op) (v w : Width) → type_given op v ≡ Some w → is_width v ≡ true → is_width w ≡ true
given_wide Plus v w h k = wide_as v w (words_given v (Some v) w h) k
given_wide Minus v w h k = wide_as v w (words_given v (Some v) w h) k
given_wide BitAnd v w h k = wide_as v w (words_given v (Some v) w h) k
given_wide BitOr v w h k = wide_as v w (words_given v (Some v) w h) k
given_wide BitXor v w h k = wide_as v w (words_given v (Some v) w h) k
given_wide And v w h k = wide_as TruthValue w (truths_given v (Some TruthValue) w h).1 refl
given_wide Or v w h k = wide_as TruthValue w (truths_given v (Some TruthValue) w h).1 refl
given_wide Equal v w h k = wide_as TruthValue w h refl
given_wide Differ v w h k = wide_as TruthValue w h refl
given_wide Less v w h k = wide_as TruthValue w (words_given v (Some TruthValue) w h) refl
given_wide Greater v w h k = wide_as TruthValue w (words_given v (Some TruthValue) w h) refl
given_wide AtMost v w h k = wide_as TruthValue w (words_given v (Some TruthValue) w h) refl
given_wide AtLeast v w h k = wide_as TruthValue w (words_given v (Some TruthValue) w h) refl

-- the type of an expression has 1 to 8 bits
type_is_wide : (scope : List (Name × Kind)) → scope_kept scope ≡ true → (e : Exp) (w : Width) → type_of (environment scope) e ≡ Some w → is_width w ≡ true
type_is_wide scope h (variable x) w t = variable_is_wide scope x w h t
type_is_wide scope h (numeral bits value) w t =
    let k = if_some (is_width (Word bits) && nat_lt value (2 ^ bits)) (Some (Word bits)) w t in
    wide_as (Word bits) w k.1 (and_parts (is_width (Word bits)) (nat_lt value (2 ^ bits)) k.0).0
type_is_wide scope h (truth b) w t = wide_as TruthValue w t refl
type_is_wide scope h (negation e) w t = subst (λ u. is_width u ≡ true) (sym (truth_type (type_of (environment scope) e) w t).1) refl
type_is_wide scope h (complement e) w t = type_is_wide scope h e w (word_type (type_of (environment scope) e) w t)
type_is_wide scope h (operation op left right) w t =
    let k = two_types op (type_of (environment scope) left) (type_of (environment scope) right) w t in
    given_wide op k.0 w k.3 (type_is_wide scope h left k.0 k.1)

pub bits_within : (scope : List (Name × Kind)) → scope_kept scope ≡ true → (e : Exp) → IsSome (type_of (environment scope) e) → (1 ≤ bits_of_exp (environment scope) e) × (bits_of_exp (environment scope) e ≤ 8)
bits_within scope h e typed =
    let k = some_type (type_of (environment scope) e) typed in
    let same : bits_of k.0 ≡ bits_of_exp (environment scope) e = sym (bits_of_type (environment scope) e k.0 k.1) in
    let within = width_within k.0 (type_is_wide scope h e k.0 k.1) in
    (subst (λ n. 1 ≤ n) same within.0, subst (λ n. n ≤ 8) same within.1)

-- ---- single digits
pub one_digit : (s : Store) (n : ℕ) (sets : List SetId) (v : ℕ → ℕ) → IsWord s n sets v → n ≡ 1 → IsSet s (get_or sets 0 no_set) (λ x. v x == 1)
one_digit s n sets v is one = only sets (is.digits ∙ one) is.known is.number
  where
    digit_is : (b : Bool) → (((if b then 1 else 0) + 2 * 0) == 1) ≡ b
    digit_is true = refl
    digit_is false = refl

    only : (sets : List SetId) → length sets ≡ 1 → ((k : ℕ) (d : SetId) → k < length sets → IsKnown s (get_or sets k d)) → ((x : ℕ) → number_at s sets x ≡ v x) → IsSet s (get_or sets 0 no_set) (λ x. v x == 1)
    only [] size known number = absurd (omega (arith, size))
    only (a ∷ []) size known number = record { known = known 0 no_set (omega arith); members = λ x. sym (digit_is (has s a x)) ∙ ap (λ m. m == 1) (number x) }
    only (a ∷ b ∷ rest) size known number = absurd (omega (arith, size))

-- ---- variables and numerals
pub row_word : (s : Store) (first count k : ℕ) (sets : List SetId) → k ≡ count → HasBits s k sets (λ i x. bit_at x (first + i) == 1) → IsWord s count sets (λ x. x / 2 ^ first % 2 ^ count)
row_word s first count k sets at_end bits = word_from_bits s count sets (λ i x. bit_at x (first + i) == 1) (λ x. x / 2 ^ first % 2 ^ count)
    (subst (λ n. HasBits s n sets (λ i x. bit_at x (first + i) == 1)) at_end bits)
    (λ x. mod-lt (x / 2 ^ first) (pow_pos count))
    (λ i x h. bit_is_one x (first + i) ∙ sym (low_bit (x / 2 ^ first) count i h ∙ higher_bit x first i))

pub numeral_word : (s : Store) (count k value : ℕ) (sets : List SetId) → k ≡ count → value < 2 ^ count → HasBits s k sets (λ i x. bit_at value i == 1) → IsWord s count sets (λ x. value)
numeral_word s count k value sets at_end below bits = word_from_bits s count sets (λ i x. bit_at value i == 1) (λ x. value)
    (subst (λ n. HasBits s n sets (λ i x. bit_at value i == 1)) at_end bits)
    (λ x. below)
    (λ i x h. bit_is_one value i)

pub variable_word : (s : Store) (entries : List (Name × Width × ℕ)) (y : ℕ) (w : Width) (f : ℕ) (sets : List SetId) → entry_of entries y ≡ Some (w, f) → IsWord s (bits_of w) sets (λ x. x / 2 ^ f % 2 ^ bits_of w) → IsWord s (bits_in (variable_width (environment_in entries) y)) sets (λ x. state_of entries x y)
variable_word s entries y w f sets e is = record {
  digits = is.digits ∙ sym (ap bits_in (found_width entries y w f e));
  known = is.known;
  number = λ x. is.number x ∙ sym (found_state entries y w f x e);
}

pub found_few : (entries : List (Name × Width × ℕ)) → IsLayout entries → (y : ℕ) (w : Width) (f : ℕ) → entry_of entries y ≡ Some (w, f) → bits_of w ≤ 8
found_few entries is y w f e = (variable_within (scope_in entries) y w is.scope (found_width entries y w f e)).1

pub never_missing : (entries : List (Name × Width × ℕ)) (y : ℕ) → entry_of entries y ≡ None → IsSome (variable_width (environment_in entries) y) → ⊥
never_missing entries y e h = no_type (variable_width (environment_in entries) y) (missing entries y e) h

-- ---- operators
digits_are : (op : Op) (v w : Width) (n : ℕ) → type_given op v ≡ Some w → n ≡ bits_of v → digits_of op n ≡ (if keeps_width op then n else 1)
digits_are Plus v w n h e = refl
digits_are Minus v w n h e = refl
digits_are BitAnd v w n h e = refl
digits_are BitOr v w n h e = refl
digits_are BitXor v w n h e = refl
digits_are And v w n h e = e ∙ ap bits_of (truths_given v (Some TruthValue) w h).0
digits_are Or v w n h e = e ∙ ap bits_of (truths_given v (Some TruthValue) w h).0
digits_are Equal v w n h e = refl
digits_are Differ v w n h e = refl
digits_are Less v w n h e = refl
digits_are Greater v w n h e = refl
digits_are AtMost v w n h e = refl
digits_are AtLeast v w n h e = refl

-- operands of an operator have as many digits
pub same_digits : (Γ : Environment) (e : Exp) (op : Op) (left right : Exp) → e ≡ operation op left right → IsSome (type_of Γ e) → bits_of_exp Γ left ≡ bits_of_exp Γ right
same_digits Γ e op left right is typed =
    let k = some_type (type_of Γ e) typed in
    let j = two_types op (type_of Γ left) (type_of Γ right) k.0 (ap (type_of Γ) (sym is) ∙ k.1) in
    bits_of_type Γ left j.0 j.1 ∙ sym (bits_of_type Γ right j.0 j.2)

pub two_word : (s new : Store) (entries : List (Name × Width × ℕ)) (e : Exp) (op : Op) (left right : Exp) (l r word : List SetId) → e ≡ operation op left right → IsSome (type_of (environment_in entries) e)
    → IsValue s entries left l → IsValue s entries right r → IsWord new (digits_of op (length l)) word (λ x. applied op (length l) (number_at s l x) (number_at s r x)) → IsValue new entries e word
two_word s new entries e op left right l r word is typed left_is right_is made =
    let Γ : Environment = environment_in entries in
    let k = some_type (type_of Γ e) typed in
    let j = two_types op (type_of Γ left) (type_of Γ right) k.0 (ap (type_of Γ) (sym is) ∙ k.1) in
    subst (λ f. IsValue new entries f word) (sym is) (record {
      digits = made.digits ∙ ap (digits_of op) left_is.digits ∙ digits_are op j.0 k.0 (bits_of_exp Γ left) j.3 (bits_of_type Γ left j.0 j.1);
      known = made.known;
      number = λ x. made.number x ∙ ap (λ n. applied op n (number_at s l x) (number_at s r x)) left_is.digits
          ∙ ap (λ n. applied op (bits_of_exp Γ left) n (number_at s r x)) (left_is.number x) ∙ ap (λ n. applied op (bits_of_exp Γ left) (value_at entries left x) n) (right_is.number x);
    })

pub turned_value : (s new : Store) (entries : List (Name × Width × ℕ)) (e operand : Exp) (sets word : List SetId) → e ≡ complement operand → IsValue s entries operand sets → IsWord new (length sets) word (λ x. 2 ^ length sets - 1 - number_at s sets x) → IsValue new entries e word
turned_value s new entries e operand sets word is before made = subst (λ f. IsValue new entries f word) (sym is) (record {
  digits = made.digits ∙ before.digits;
  known = made.known;
  number = λ x. made.number x ∙ ap (λ n. 2 ^ n - 1 - number_at s sets x) before.digits ∙ ap (λ n. 2 ^ bits_of_exp (environment_in entries) operand - 1 - n) (before.number x);
})

pub not_value : (s new : Store) (entries : List (Name × Width × ℕ)) (e operand : Exp) (sets word : List SetId) → e ≡ negation operand → IsSome (type_of (environment_in entries) e) → IsValue s entries operand sets → IsWord new (length sets) word (λ x. 2 ^ length sets - 1 - number_at s sets x) → IsValue new entries e word
not_value s new entries e operand sets word is typed before made =
    let Γ : Environment = environment_in entries in
    let k = some_type (type_of Γ e) typed in
    let one : bits_of_exp Γ operand ≡ 1 = bits_of_type Γ operand TruthValue (truth_type (type_of Γ operand) k.0 (ap (type_of Γ) (sym is) ∙ k.1)).0 in
    subst (λ f. IsValue new entries f word) (sym is) (record {
      digits = made.digits ∙ before.digits ∙ one;
      known = made.known;
      number = λ x. made.number x ∙ ap (λ n. 2 ^ n - 1 - number_at s sets x) (before.digits ∙ one) ∙ ap (λ n. 1 - n) (before.number x);
    })

pub one_bit : (Γ : Environment) (e : Exp) → is_condition Γ e ≡ true → bits_of_exp Γ e ≡ 1
one_bit Γ e h = bits_of_type Γ e TruthValue (condition_type Γ e h)
