-- A number that is written in decimal reads back.
use Rattle.std.proofs.Common.{◌≡◌, ℕ, cond, zero, suc, ◌%◌, ◌+◌, ◌-◌, ◌*◌, ◌^◌, ◌<◌, ◌≤◌, Bool, true, false, ◌&&◌, eqb, List, [], ◌∷◌, length, get_or, fold, None, Some, refl, ap, ◌∙◌, arith, length-append, ⊎_elim, lit≤}
use Rattle.std.specs.Prelude.{decimal}
use Rattle.std.specs.List.{list_all}
use Rattle.std.proofs.lemmas.Bool.{and_parts, and_from, cond-true, le-leb, ne_eqb, not_from_false, cases_eq}
use Rattle.std.proofs.lemmas.Fmt.{decimal_is_IsNumeral_wide, decimal_by_steps_wide, decimal_digit}
use Rattle.std.proofs.lemmas.Str.Parse.{IsDigitsTest, FoldsDigits, IsNumeralModel, numerals_by_fold}
use Rattle.std.proofs.Math.ListN.{get_or-append}
use Rattle.occ_lex.specs.Spelling.{is_digit, is_numeral, value_of}
use Rattle.occ_lex.proofs.Classes.{digit_is}
use Rattle.occ_nform_table.specs.Words.{then_read, has_no_leading_zero, number_of, at_most, small_number_of}
use Rattle.occ_nform_table.proofs.WrittenWords.{lacks, class_lacks}

abbrev AreDigits : List ℕ → Type 0
AreDigits ds = list_all is_digit ds ≡ true

abbrev with_digit : ℕ → ℕ → ℕ
with_digit value digit = 10 * value + (digit - 48)

digits_test : IsDigitsTest AreDigits
digits_test = record {
  empty = refl;
  parts = λ c cs h. let parts = and_parts (is_digit c) (list_all is_digit cs) h in (digit_is c parts.0, parts.1);
  more = λ c cs range h. and_from (is_digit c) (list_all is_digit cs) (and_from _ _ (le-leb 48 c range.0) (le-leb c 57 range.1)) h;
}

digits_fold : FoldsDigits (fold with_digit)
digits_fold = record {
  empty = λ n. refl;
  more = λ n c cs range. let e : 10 * n + (c - 48) ≡ n * 10 + (c - 48) = omega arith in ap (λ m. fold with_digit m cs) e;
}

own : IsNumeralModel AreDigits value_of
own = numerals_by_fold AreDigits digits_test (fold with_digit) digits_fold

pub decimal_digits : (n : ℕ) → n < 10 ^ 64 → list_all is_digit (decimal n) ≡ true
decimal_digits n h = own.from (decimal n) (decimal_is_IsNumeral_wide n h).0.1

pub decimal_some : (n : ℕ) → n < 10 ^ 64 → 0 < length (decimal n)
decimal_some n h = (decimal_is_IsNumeral_wide n h).0.0

pub decimal_value : (n : ℕ) → n < 10 ^ 64 → value_of (decimal n) ≡ n
decimal_value n h = own.same (decimal n) (decimal_is_IsNumeral_wide n h).0.1 ∙ (decimal_is_IsNumeral_wide n h).1

pub decimal_lacks : (byte : ℕ) → is_digit byte ≡ false → (n : ℕ) → n < 10 ^ 64 → lacks byte (decimal n) ≡ true
decimal_lacks byte out n h = class_lacks is_digit byte out (decimal n) (decimal_digits n h)

decimal_first : (n : ℕ) → 0 < n → n < 10 ^ 64 → 48 < get_or (decimal n) 0 0
decimal_first n some small = (decimal_by_steps_wide (λ m ds. (0 < length ds) × (0 < m → 48 < get_or ds 0 0)) (λ m l. (omega arith, λ a. omega arith))
    (λ m ds l h. (omega (arith, length-append ds ((48 + m % 10) ∷ [])), λ a. omega (arith, get_or-append ds ((48 + m % 10) ∷ []) 0 0 h.0, h.1 (omega arith)))) n small).1 some

high_first : (ds : List ℕ) → 48 < get_or ds 0 0 → has_no_leading_zero ds ≡ true
high_first [] h = refl
high_first (d ∷ []) h = refl
high_first (d ∷ e ∷ ds) h = not_from_false (eqb d 48) (ne_eqb d 48 (λ k. absurd (omega (arith, h, k))))

pub no_leading_zero : (n : ℕ) → n < 10 ^ 64 → has_no_leading_zero (decimal n) ≡ true
no_leading_zero n h = ⊎_elim
    (λ (e : n ≡ 0). ap (λ m. has_no_leading_zero (decimal m)) e ∙ ap has_no_leading_zero (decimal_digit 0 (omega arith)))
    (λ (k : n ≡ 0 → ⊥). high_first (decimal n) (decimal_first n (some n k) h))
    (cases_eq n 0)
  where
    some : (m : ℕ) → (m ≡ 0 → ⊥) → 0 < m
    some zero k = absurd (k refl)
    some (suc m) k = omega arith

numeral_is : (ds : List ℕ) → 0 < length ds → list_all is_digit ds ≡ true → is_numeral ds ≡ true
unfolding is_numeral
numeral_is [] some h = absurd (omega (arith, some))
numeral_is (d ∷ ds) some h = h

pub numeral_digits : (ds : List ℕ) → is_numeral ds ≡ true → list_all is_digit ds ≡ true
unfolding is_numeral
numeral_digits [] h = refl
numeral_digits (d ∷ ds) h = h

pub number_read : (n : ℕ) → n < 10 ^ 64 → number_of (decimal n) ≡ Some n
unfolding number_of
number_read n h =
    cond-true _ (Some (value_of (decimal n))) None (and_from _ _ (numeral_is (decimal n) (decimal_some n h) (decimal_digits n h)) (no_leading_zero n h)) ∙ ap Some (decimal_value n h)

pub small_below : (n : ℕ) → n < 2 ^ 32 → n < 10 ^ 64
small_below n h = let most : 2 ^ 32 ≤ 10 ^ 64 = lit≤ tt in omega (arith, h, most)

pub small_number_read : (n : ℕ) → n < 2 ^ 32 → small_number_of (decimal n) ≡ Some n
unfolding small_number_of
small_number_read n h = ap (λ o. then_read o (at_most 4294967295)) (number_read n (small_below n h)) ∙ cond-true _ (Some n) None (le-leb n 4294967295 (omega (arith, h)))

-- what is read as a number is digits
pub number_digits : (text : List ℕ) (n : ℕ) → small_number_of text ≡ Some n → list_all is_digit text ≡ true
unfolding small_number_of number_of
number_digits text n h = at (is_numeral text) (has_no_leading_zero text) refl h
  where
    at : (a b : Bool) → is_numeral text ≡ a → then_read (cond (a && b) (Some (value_of text)) None) (at_most 4294967295) ≡ Some n → list_all is_digit text ≡ true
    at true b e k = numeral_digits text e
    at false b e k = absurd cc
