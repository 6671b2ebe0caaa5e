-- What the types of expressions give: widths, values below two to the width, and that each name is in scope.
use Rattle.occ_syntax.specs.occ_base.Width.{bits_of}
use Rattle.occ_syntax.specs.occ_base.declared.event.Dir.TheVariants.{Input, Output}
use Rattle.occ_syntax.specs.occ_base.declared.width.Width.{Width}
use Rattle.occ_syntax.specs.occ_base.declared.width.Width.TheVariants.{Bool as TruthValue, Word}
use Rattle.occ_meaning.proofs.Facts.{agreed, and_three, false_not_true, none_not_some, some_is}
use Rattle.occ_syntax.specs.Eval.{applied, bits_in, bits_of_exp, eval, keeps_width, one_if}
use Rattle.occ_syntax.specs.Names.{is_in, names, some_names}
use Rattle.occ_syntax.specs.Scopes.{Environment, IsState, Values, allows, channel_width, variable_width}
use Rattle.occ_syntax.specs.Tree.{Exp, complement, negation, numeral, operation, truth, variable}
use Rattle.occ_syntax.specs.Types.{agree, if_truth_value, if_word, input_kept, is_condition, is_width, of_truth_values, of_words, output_kept, pairs_kept, same_width, type_given, type_of, type_of_two}
use Rattle.occ_syntax.specs.declared.expr.Op.{Op}
use Rattle.occ_syntax.specs.declared.expr.Op.TheVariants.{And, AtLeast, AtMost, BitAnd, BitOr, BitXor, Differ, Equal, Greater, Less, Minus, Or, Plus}
use Rattle.std.proofs.Common.{Bool, List, None, Option, Some, [], ap, arith, bit_and, bit_or, bit_xor, false, if◌then◌else◌, inl, inr, nat_le, nat_lt, not, refl, subst, sym, true, ℕ, ◌%◌, ◌&&◌, ◌+◌, ◌-◌, ◌<◌, ◌==◌, ◌^◌, ◌∙◌, ◌∷◌, ◌≡◌}
use Rattle.std.proofs.Math.Nat.{mod-lt}
use Rattle.std.proofs.lemmas.Bool.{and_parts, ltb-true, or_from}
use Rattle.std.proofs.lemmas.Bool.Decides.{eqb_tells}
use Rattle.std.proofs.lemmas.Nat.{and_le_l, or_lt, pow_pos, xor_lt}
use Rattle.occ_syntax.proofs.Widths.{same_widths}

some_if : {A : Type 0} (b : Bool) (o : Option A) (a : A) → (if b then o else None) ≡ Some a → (b ≡ true) × (o ≡ Some a)
some_if true o a h = (refl, h)
some_if false o a h = none_not_some h

pub two_types : (op : Op) (a b : Option Width) (w : Width) → type_of_two op a b ≡ Some w
    → (v : Width) × (a ≡ Some v) × (b ≡ Some v) × (type_given op v ≡ Some w)
two_types op (Some a) (Some b) w h = let k = some_if (same_width a b) (type_given op a) w h in (a, refl, ap Some (sym (same_widths a b k.0)), k.1)
two_types op (Some a) None w h = none_not_some h
two_types op None b w h = none_not_some h

pub truth_type : (o : Option Width) (w : Width) → if_truth_value o ≡ Some w → (o ≡ Some TruthValue) × (w ≡ TruthValue)
truth_type (Some TruthValue) w h = (refl, sym (some_is h))
truth_type (Some (Word bits)) w h = none_not_some h
truth_type None w h = none_not_some h

pub word_type : (o : Option Width) (w : Width) → if_word o ≡ Some w → o ≡ Some w
word_type (Some (Word bits)) w h = h
word_type (Some TruthValue) w h = none_not_some h
word_type None w h = none_not_some h

of_words_type : (v : Width) (g : Option Width) (w : Width) → of_words v g ≡ Some w → g ≡ Some w
of_words_type (Word bits) g w h = h
of_words_type TruthValue g w h = none_not_some h

of_truths_type : (v : Width) (g : Option Width) (w : Width) → of_truth_values v g ≡ Some w → (v ≡ TruthValue) × (g ≡ Some w)
of_truths_type TruthValue g w h = (refl, h)
of_truths_type (Word bits) g w h = none_not_some h

-- ---- widths

given_bits : (op : Op) (v w : Width) → type_given op v ≡ Some w → (if keeps_width op then bits_of v else 1) ≡ bits_of w
given_bits Plus v w h = ap bits_of (some_is (of_words_type v (Some v) w h))
given_bits Minus v w h = ap bits_of (some_is (of_words_type v (Some v) w h))
given_bits BitAnd v w h = ap bits_of (some_is (of_words_type v (Some v) w h))
given_bits BitOr v w h = ap bits_of (some_is (of_words_type v (Some v) w h))
given_bits BitXor v w h = ap bits_of (some_is (of_words_type v (Some v) w h))
given_bits And v w h = ap bits_of (some_is (of_truths_type v (Some TruthValue) w h).1)
given_bits Or v w h = ap bits_of (some_is (of_truths_type v (Some TruthValue) w h).1)
given_bits Equal v w h = ap bits_of (some_is h)
given_bits Differ v w h = ap bits_of (some_is h)
given_bits Less v w h = ap bits_of (some_is (of_words_type v (Some TruthValue) w h))
given_bits Greater v w h = ap bits_of (some_is (of_words_type v (Some TruthValue) w h))
given_bits AtMost v w h = ap bits_of (some_is (of_words_type v (Some TruthValue) w h))
given_bits AtLeast v w h = ap bits_of (some_is (of_words_type v (Some TruthValue) w h))

-- the bits of a typed expression are those of its type
pub bits_of_type : (Γ : Environment) (e : Exp) (w : Width) → type_of Γ e ≡ Some w → bits_of_exp Γ e ≡ bits_of w
bits_of_type Γ (variable x) w h = ap bits_in h
bits_of_type Γ (numeral bits value) w h = ap bits_of (some_is (some_if (is_width (Word bits) && nat_lt value (2 ^ bits)) (Some (Word bits)) w h).1)
bits_of_type Γ (truth b) w h = ap bits_of (some_is h)
bits_of_type Γ (negation e) w h = ap bits_of (sym (truth_type (type_of Γ e) w h).1)
bits_of_type Γ (complement e) w h = bits_of_type Γ e w (word_type (type_of Γ e) w h)
bits_of_type Γ (operation op left right) w h =
    let k = two_types op (type_of Γ left) (type_of Γ right) w h in
    ap (λ n. if keeps_width op then n else 1) (bits_of_type Γ left k.0 k.1) ∙ given_bits op k.0 w k.3

-- ---- values

one_below : (b : Bool) → one_if b < 2 ^ 1
one_below true = omega arith
one_below false = omega arith

below_at : (n : ℕ) (v w : Width) → n < 2 ^ bits_of v → v ≡ w → n < 2 ^ bits_of w
below_at n v w h e = let P : Width → Type 0 = λ u. n < 2 ^ bits_of u in subst P e h

and_below : (k a b : ℕ) → a < 2 ^ k → bit_and a b < 2 ^ k
and_below k a b h = omega (arith, and_le_l a b)

applied_below : (op : Op) (v w : Width) (a b : ℕ) → type_given op v ≡ Some w → a < 2 ^ bits_of v → b < 2 ^ bits_of v
    → applied op (bits_of v) a b < 2 ^ bits_of w
applied_below Plus v w a b h la lb = below_at ((a + b) % 2 ^ bits_of v) v w (mod-lt (a + b) (pow_pos (bits_of v))) (some_is (of_words_type v (Some v) w h))
applied_below Minus v w a b h la lb = below_at ((a + (2 ^ bits_of v - b)) % 2 ^ bits_of v) v w (mod-lt (a + (2 ^ bits_of v - b)) (pow_pos (bits_of v))) (some_is (of_words_type v (Some v) w h))
applied_below BitAnd v w a b h la lb = below_at (bit_and a b) v w (and_below (bits_of v) a b la) (some_is (of_words_type v (Some v) w h))
applied_below BitOr v w a b h la lb = below_at (bit_or a b) v w (or_lt (bits_of v) a b la lb) (some_is (of_words_type v (Some v) w h))
applied_below BitXor v w a b h la lb = below_at (bit_xor a b) v w (xor_lt (bits_of v) a b la lb) (some_is (of_words_type v (Some v) w h))
applied_below And v w a b h la lb = let k = of_truths_type v (Some TruthValue) w h in below_at (bit_and a b) v w (and_below (bits_of v) a b la) (k.0 ∙ some_is k.1)
applied_below Or v w a b h la lb = let k = of_truths_type v (Some TruthValue) w h in below_at (bit_or a b) v w (or_lt (bits_of v) a b la lb) (k.0 ∙ some_is k.1)
applied_below Equal v w a b h la lb = below_at (one_if (a == b)) TruthValue w (one_below (a == b)) (some_is h)
applied_below Differ v w a b h la lb = below_at (one_if (not (a == b))) TruthValue w (one_below (not (a == b))) (some_is h)
applied_below Less v w a b h la lb = below_at (one_if (nat_lt a b)) TruthValue w (one_below (nat_lt a b)) (some_is (of_words_type v (Some TruthValue) w h))
applied_below Greater v w a b h la lb = below_at (one_if (nat_lt b a)) TruthValue w (one_below (nat_lt b a)) (some_is (of_words_type v (Some TruthValue) w h))
applied_below AtMost v w a b h la lb = below_at (one_if (nat_le a b)) TruthValue w (one_below (nat_le a b)) (some_is (of_words_type v (Some TruthValue) w h))
applied_below AtLeast v w a b h la lb = below_at (one_if (nat_le b a)) TruthValue w (one_below (nat_le b a)) (some_is (of_words_type v (Some TruthValue) w h))

flipped_below : (k n : ℕ) → 2 ^ k - 1 - n < 2 ^ k
flipped_below k n = let h : 0 < 2 ^ k = pow_pos k in omega arith

-- the value of a typed expression stays below two to the width of its type
pub eval_below : (Γ : Environment) (s : Values) → IsState Γ s → (e : Exp) (w : Width) → type_of Γ e ≡ Some w → eval Γ e s < 2 ^ bits_of w
eval_below Γ s state (variable x) w h = state x w h
eval_below Γ s state (numeral bits value) w h =
    let k = some_if (is_width (Word bits) && nat_lt value (2 ^ bits)) (Some (Word bits)) w h in
    below_at value (Word bits) w (ltb-true value (2 ^ bits) (and_parts (is_width (Word bits)) (nat_lt value (2 ^ bits)) k.0).1) (some_is k.1)
eval_below Γ s state (truth b) w h = below_at (one_if b) TruthValue w (one_below b) (some_is h)
eval_below Γ s state (negation e) w h =
    let l : 1 - eval Γ e s < 2 ^ bits_of TruthValue = omega arith in below_at (1 - eval Γ e s) TruthValue w l (sym (truth_type (type_of Γ e) w h).1)
eval_below Γ s state (complement e) w h =
    let k = bits_of_type Γ e w (word_type (type_of Γ e) w h) in
    let P : ℕ → Type 0 = λ n. 2 ^ bits_of_exp Γ e - 1 - eval Γ e s < 2 ^ n in subst P k (flipped_below (bits_of_exp Γ e) (eval Γ e s))
eval_below Γ s state (operation op left right) w h =
    let k = two_types op (type_of Γ left) (type_of Γ right) w h in
    let P : ℕ → Type 0 = λ n. applied op n (eval Γ left s) (eval Γ right s) < 2 ^ bits_of w in
    subst P (sym (bits_of_type Γ left k.0 k.1))
    (applied_below op k.0 w (eval Γ left s) (eval Γ right s) k.3 (eval_below Γ s state left k.0 k.1) (eval_below Γ s state right k.0 k.2))

-- ---- names in scope

no_such_name : (Γ : Environment) (x y : ℕ) (w : Width) → variable_width Γ y ≡ Some w → variable_width Γ x ≡ None → (x == y) ≡ false
no_such_name Γ x y w h k = elim (eqb_tells x y) [ inl e ↦ none_not_some (sym k ∙ ap (variable_width Γ) e.1 ∙ h) | inr e ↦ e.0 ]

-- a typed expression names variables in scope alone
pub names_in_scope : (Γ : Environment) (x : ℕ) → variable_width Γ x ≡ None → (e : Exp) (w : Width) → type_of Γ e ≡ Some w → names e x ≡ false
names_in_scope Γ x k (variable y) w h = no_such_name Γ x y w h k
names_in_scope Γ x k (numeral bits value) w h = refl
names_in_scope Γ x k (truth b) w h = refl
names_in_scope Γ x k (negation e) w h = names_in_scope Γ x k e TruthValue (truth_type (type_of Γ e) w h).0
names_in_scope Γ x k (complement e) w h = names_in_scope Γ x k e w (word_type (type_of Γ e) w h)
names_in_scope Γ x k (operation op left right) w h =
    let j = two_types op (type_of Γ left) (type_of Γ right) w h in
    or_from (names left x) (names right x) (names_in_scope Γ x k left j.0 j.1) (names_in_scope Γ x k right j.0 j.2)

pub condition_type : (Γ : Environment) (e : Exp) → is_condition Γ e ≡ true → type_of Γ e ≡ Some TruthValue
condition_type Γ e h = let k = agreed (type_of Γ e) (Some TruthValue) h in k.1 ∙ sym k.2

pub condition_in_scope : (Γ : Environment) (x : ℕ) → variable_width Γ x ≡ None → (e : Exp) → is_condition Γ e ≡ true → names e x ≡ false
condition_in_scope Γ x k e h = names_in_scope Γ x k e TruthValue (condition_type Γ e h)

pub variable_in_scope : (Γ : Environment) (x y : ℕ) (o : Option Width) → agree o (variable_width Γ y) ≡ true → variable_width Γ x ≡ None
    → (x == y) ≡ false
variable_in_scope Γ x y o h k = let j = agreed o (variable_width Γ y) h in no_such_name Γ x y j.0 j.2 k

pub pairs_in_scope : (Γ : Environment) (x : ℕ) → variable_width Γ x ≡ None → (xs : List ℕ) (es : List Exp) → pairs_kept Γ xs es ≡ true
    → (is_in xs x ≡ false) × (some_names es x ≡ false)
pairs_in_scope Γ x k [] [] h = (refl, refl)
pairs_in_scope Γ x k (y ∷ xs) (e ∷ es) h =
    let j = and_three (agree (variable_width Γ y) (type_of Γ e)) (not (is_in xs y)) (pairs_kept Γ xs es) h in
    let a = agreed (variable_width Γ y) (type_of Γ e) j.0 in
    let rest = pairs_in_scope Γ x k xs es j.2 in
    (or_from (x == y) (is_in xs x) (no_such_name Γ x y a.0 a.1 k) rest.0, or_from (names e x) (some_names es x) (names_in_scope Γ x k e a.0 a.2) rest.1)
pairs_in_scope Γ x k [] (e ∷ es) h = false_not_true h
pairs_in_scope Γ x k (y ∷ xs) [] h = false_not_true h

pub input_types : (Γ : Environment) (c x : ℕ) → input_kept Γ c x ≡ true
    → (allows (Γ c) Input ≡ true) × ((w : Width) × (channel_width Γ c ≡ Some w) × (variable_width Γ x ≡ Some w))
input_types Γ c x h = let k = and_parts (allows (Γ c) Input) (agree (channel_width Γ c) (variable_width Γ x)) h in (k.0, agreed (channel_width Γ c) (variable_width Γ x) k.1)

pub output_types : (Γ : Environment) (c : ℕ) (e : Exp) → output_kept Γ c e ≡ true
    → (allows (Γ c) Output ≡ true) × ((w : Width) × (channel_width Γ c ≡ Some w) × (type_of Γ e ≡ Some w))
output_types Γ c e h = let k = and_parts (allows (Γ c) Output) (agree (channel_width Γ c) (type_of Γ e)) h in (k.0, agreed (channel_width Γ c) (type_of Γ e) k.1)
