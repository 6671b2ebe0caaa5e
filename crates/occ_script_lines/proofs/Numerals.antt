-- The value of a numeral, digit by digit.
use Rattle.std.proofs.Common.{◌≡◌, ℕ, ◌+◌, ◌<◌, ◌≤◌, true, false, eqb, leb, ◌&&◌, List, [], ◌∷◌, length, get_or, take, drop, fold, Some, None, refl, sym, ap, subst, ◌∙◌, arith}
use Rattle.std.specs.List.{list_all}
use Rattle.std.proofs.lemmas.Bool.{eqb-true, eqb-false, and_left, and_right, and_from, lt-leb, le-leb, cond-true, cond-false}
use Rattle.std.proofs.lemmas.List.{take-append-drop, take_all}
use Rattle.std.proofs.lemmas.List.Sums.{fold-append}
use Rattle.std.proofs.lemmas.List.Folds.{list_all_at}
use Rattle.occ_lex.specs.Spelling.{is_digit, is_numeral, value_of}
use Rattle.occ_lex.proofs.Numerals.{value_more, with_digit}
use Rattle.occ_script_lines.specs.Texts.{numeral_of}

-- no further digit makes the value smaller
value_grows : (start : ℕ) (digits : List ℕ) → start ≤ fold with_digit start digits
value_grows start [] = omega arith
value_grows start (digit ∷ digits) =
    let more : with_digit start digit ≤ fold with_digit (with_digit start digit) digits = value_grows (with_digit start digit) digits in
    omega (arith, more)

value_front : (digits : List ℕ) (n : ℕ) → value_of (take n digits) ≤ value_of digits
value_front digits n =
    let split : value_of digits ≡ fold with_digit (value_of (take n digits)) (drop n digits) = ap (fold with_digit 0) (sym (take-append-drop n digits)) ∙ fold-append with_digit 0 (take n digits) (drop n digits) in
    omega (arith, split, value_grows (value_of (take n digits)) (drop n digits))

numeral_all : (text : List ℕ) → list_all is_digit text ≡ false → is_numeral text ≡ false
unfolding is_numeral
numeral_all [] h = refl
numeral_all (byte ∷ rest) h = h

-- a byte that is no digit
pub no_digit : (text : List ℕ) (i : ℕ) → i < length text → is_digit (get_or text i 0) ≡ false → None ≡ numeral_of text
unfolding numeral_of
no_digit text i within h =
    let none : (is_numeral text && leb (value_of text) 4294967295) ≡ false = and_left (is_numeral text) (leb (value_of text) 4294967295) (numeral_all text (list_all_at is_digit text i 0 within h)) in
    sym (cond-false _ (Some (value_of text)) None none)

-- a value that is too large so far
pub too_large : (text : List ℕ) (i value : ℕ) → i < length text → value ≡ value_of (take i text) → 4294967295 < with_digit value (get_or text i 0) → None ≡ numeral_of text
unfolding numeral_of
too_large text i value within e h =
    let large : 4294967295 < value_of text = omega (arith, value_front text (i + 1), value_more text i within, e, h) in
    let none : (is_numeral text && leb (value_of text) 4294967295) ≡ false = and_right (is_numeral text) (leb (value_of text) 4294967295) (lt-leb (value_of text) 4294967295 large) in
    sym (cond-false _ (Some (value_of text)) None none)

numeral_is : (text : List ℕ) → eqb (length text) 0 ≡ false → list_all is_digit text ≡ true → is_numeral text ≡ true
unfolding is_numeral
numeral_is [] some h = absurd (eqb-false 0 0 some refl)
numeral_is (byte ∷ rest) some h = h

-- all digits were read
pub value_is : (text : List ℕ) (n value : ℕ) → eqb (length text) 0 ≡ false → length text ≤ n → value ≡ value_of (take n text) → value ≤ 4294967295 → list_all is_digit (take n text) ≡ true → Some value ≡ numeral_of text
unfolding numeral_of
value_is text n value some whole e small digits =
    let all : take n text ≡ text = take_all n text whole in
    let same : value ≡ value_of text = e ∙ ap value_of all in
    let good : (is_numeral text && leb (value_of text) 4294967295) ≡ true = and_from _ _ (numeral_is text some (subst (λ t. list_all is_digit t ≡ true) all digits)) (le-leb (value_of text) 4294967295 (omega (arith, same, small))) in
    ap Some same ∙ sym (cond-true _ (Some (value_of text)) None good)

-- no text writes no number
pub value_nil : (text : List ℕ) → eqb (length text) 0 ≡ true → None ≡ numeral_of text
unfolding numeral_of is_numeral
value_nil [] h = refl
value_nil (byte ∷ rest) h = absurd (omega (arith, eqb-true (length (byte ∷ rest)) 0 h))
