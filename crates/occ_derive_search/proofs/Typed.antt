-- Numerals and widths of what keeps types: they are below 256.
use Rattle.std.proofs.Common.{◌≡◌, ℕ, suc, zero, ◌^◌, ◌<◌, ◌≤◌, arith, true, false, Bool, Option, None, Some, refl, ap, ◌∙◌}
use Rattle.std.proofs.lemmas.Bool.{and_parts, leb-true, lt-ltb, ltb-true}
use Rattle.std.proofs.Math.Nat.{pow-le-pow_right}
use Rattle.std.specs.Prelude.{◌&&◌, nat_le, nat_lt, if◌then◌else◌}
use Rattle.occ_syntax.specs.occ_base.declared.width.Width.{Width}
use Rattle.occ_syntax.specs.occ_base.declared.width.Width.TheVariants.{Bool as TruthValue, Word}
use Rattle.occ_derive_search.specs.Piles.{width_of}
use Rattle.occ_syntax.specs.declared.expr.Op.{Op}
use Rattle.occ_syntax.specs.Types.{agree, if_truth_value, if_word, is_width, type_of_two}

-- an option has a value
pub record IsThere {A : Type 0} (o : Option A) : Type 0 where
  pub value : A
  pub is : o ≡ Some value

-- what a truth value is taken from has a type
pub truth_there : (o : Option Width) → IsThere (if_truth_value o) → IsThere o
truth_there None t = let h : None ≡ Some t.value = t.is in cc
truth_there (Some w) t = record { value = w; is = refl }

-- what a word is taken from has a type
pub word_there : (o : Option Width) → IsThere (if_word o) → IsThere o
word_there None t = let h : None ≡ Some t.value = t.is in cc
word_there (Some w) t = record { value = w; is = refl }

-- the left operand of an operation with a type has one
pub left_there : (op : Op) (o u : Option Width) → IsThere (type_of_two op o u) → IsThere o
left_there op None u t = let h : None ≡ Some t.value = t.is in cc
left_there op (Some w) u t = record { value = w; is = refl }

-- and so has the right one
pub right_there : (op : Op) (o u : Option Width) → IsThere (type_of_two op o u) → IsThere u
right_there op None None t = let h : None ≡ Some t.value = t.is in cc
right_there op (Some v) None t = let h : None ≡ Some t.value = t.is in cc
right_there op o (Some w) t = record { value = w; is = refl }

-- of two types that agree the first is there
pub agree_first : (o u : Option Width) → agree o u ≡ true → IsThere o
agree_first None u h = cc
agree_first (Some w) u h = record { value = w; is = refl }

-- and so is the second
pub agree_second : (o u : Option Width) → agree o u ≡ true → IsThere u
agree_second None None h = cc
agree_second (Some w) None h = cc
agree_second o (Some w) h = record { value = w; is = refl }

chosen : (b : Bool) (w : Width) → IsThere (if b then Some w else None) → b ≡ true
chosen true w t = refl
chosen false w t = let h : None ≡ Some t.value = t.is in cc

-- a word has few bits
few : (bits : ℕ) → is_width (Word bits) ≡ true → bits ≤ 8
few bits h = leb-true bits 8 (and_parts (nat_le 1 bits) (nat_le bits 8) h).1

-- the bits and the value of a numeral that has a type are below 256
pub numeral_small : (bits value : ℕ) → IsThere (if is_width (Word bits) && nat_lt value (2 ^ bits) then Some (Word bits) else None)
    → (nat_lt bits 256 && nat_lt value 256) ≡ true
numeral_small bits value t =
    let both = and_parts (is_width (Word bits)) (nat_lt value (2 ^ bits)) (chosen (is_width (Word bits) && nat_lt value (2 ^ bits)) (Word bits) t) in
    let two : 0 < 2 = omega arith in
    let most : bits ≤ 8 = few bits both.0 in
    let power : 2 ^ bits ≤ 2 ^ 8 = pow-le-pow_right two most in
    let below : value < 2 ^ bits = ltb-true value (2 ^ bits) both.1 in
    ap (λ b. b && nat_lt value 256) (lt-ltb bits 256 (omega arith)) ∙ lt-ltb value 256 (omega (arith, power, below))

-- a width is that of a number below 256
pub record IsSmall (w : Width) : Type 0 where
  pub bits : ℕ
  pub small : nat_lt bits 256 ≡ true
  pub is : width_of bits ≡ w

-- each width that is one is so
pub width_small : (w : Width) → is_width w ≡ true → IsSmall w
width_small TruthValue h = record { bits = 0; small = refl; is = refl }
width_small (Word zero) h = cc
width_small (Word (suc n)) h = let most : suc n ≤ 8 = few (suc n) h in record { bits = suc n; small = lt-ltb (suc n) 256 (omega arith); is = refl }
