-- A numeral without leading zeros is the decimal text of its number.
use Rattle.std.proofs.Common.{◌≡◌, ℕ, ◌+◌, ◌-◌, ◌*◌, ◌/◌, ◌%◌, ◌^◌, ◌<◌, ◌≤◌, true, eqb, leb, not, ◌&&◌, List, [], ◌∷◌, ◌++◌, fold, Some, sym, ap, ◌∙◌, arith, append_assoc, append-nil}
use Rattle.std.specs.Prelude.{decimal}
use Rattle.std.specs.List.{list_all}
use Rattle.std.proofs.lemmas.Bool.{and_parts, leb-true, not-true, eqb-false}
use Rattle.std.proofs.lemmas.Fmt.{decimal_digit, decimal_step}
use Rattle.std.proofs.lemmas.Option.{none-some, cond_some}
use Rattle.occ_lex.specs.Spelling.{is_digit, is_numeral, value_of}
use Rattle.occ_nform_table.specs.Words.{number_of, small_number_of, at_most}
use Rattle.occ_nform_table.proofs.ReadWords.{then_inv}

abbrev with_digit : ℕ → ℕ → ℕ
with_digit value digit = 10 * value + (digit - 48)

-- no further digit makes the value smaller
value_grows : (start : ℕ) (digits : List ℕ) → start ≤ fold with_digit start digits
value_grows start [] = omega arith
value_grows start (digit ∷ digits) =
    let more : with_digit start digit ≤ fold with_digit (with_digit start digit) digits = value_grows (with_digit start digit) digits in
    omega (arith, more)

digit_bounds : (c : ℕ) → is_digit c ≡ true → (48 ≤ c) × (c ≤ 57)
digit_bounds c h = let parts = and_parts (leb 48 c) (leb c 57) h in (leb-true 48 c parts.0, leb-true c 57 parts.1)

-- further digits stand behind the text of the number so far
value_behind : (n : ℕ) (ds : List ℕ) → 0 < n → list_all is_digit ds ≡ true → fold with_digit n ds < 2 ^ 64 → decimal (fold with_digit n ds) ≡ decimal n ++ ds
value_behind n [] some d small = sym (append-nil (decimal n))
value_behind n (c ∷ cs) some d small =
    let parts = and_parts (is_digit c) (list_all is_digit cs) d in
    let low : 48 ≤ c = (digit_bounds c parts.0).0 in
    let high : c ≤ 57 = (digit_bounds c parts.0).1 in
    let m : ℕ = with_digit n c in
    let front : m / 10 ≡ n = omega arith in
    let end : 48 + m % 10 ≡ c = omega arith in
    let fits : m < 2 ^ 64 = omega (arith, value_grows m cs) in
    value_behind m cs (omega arith) parts.1 small
    ∙ ap (λ x. x ++ cs) (decimal_step m (omega arith) fits ∙ (λ i. decimal (front i) ++ (end i ∷ [])))
    ∙ append_assoc (decimal n) (c ∷ []) cs

one_digit : (c : ℕ) → is_digit c ≡ true → decimal (with_digit 0 c) ≡ c ∷ []
one_digit c h =
    let low : 48 ≤ c = (digit_bounds c h).0 in
    let high : c ≤ 57 = (digit_bounds c h).1 in
    let is : 48 + with_digit 0 c ≡ c = omega arith in
    decimal_digit (with_digit 0 c) (omega arith) ∙ ap (λ x. x ∷ []) is

pub number_inv : (word : List ℕ) (n : ℕ) → number_of word ≡ Some n → n < 2 ^ 64 → word ≡ decimal n
unfolding number_of is_numeral
number_inv [] n e small = absurd (none-some n e)
number_inv (c ∷ []) n e small =
    let parts = cond_some (list_all is_digit (c ∷ []) && true) (value_of (c ∷ [])) n e in
    let digits = and_parts (list_all is_digit (c ∷ [])) true parts.0 in
    let digit = and_parts (is_digit c) true digits.0 in
    sym (one_digit c digit.0) ∙ ap decimal parts.1
number_inv (c ∷ d ∷ cs) n e small =
    let parts = cond_some (list_all is_digit (c ∷ d ∷ cs) && not (eqb c 48)) (value_of (c ∷ d ∷ cs)) n e in
    let both = and_parts (list_all is_digit (c ∷ d ∷ cs)) (not (eqb c 48)) parts.0 in
    let digits = and_parts (is_digit c) (list_all is_digit (d ∷ cs)) both.0 in
    let low : 48 ≤ c = (digit_bounds c digits.0).0 in
    let other : c ≡ 48 → ⊥ = eqb-false c 48 (not-true (eqb c 48) both.1) in
    let same : value_of (c ∷ d ∷ cs) ≡ n = parts.1 in
    let some : 0 < with_digit 0 c = omega arith in
    let fits : fold with_digit (with_digit 0 c) (d ∷ cs) < 2 ^ 64 = omega (arith, same) in
    sym (value_behind (with_digit 0 c) (d ∷ cs) some digits.1 fits ∙ ap (λ x. x ++ (d ∷ cs)) (one_digit c digits.0)) ∙ ap decimal same

pub small_inv : (word : List ℕ) (n : ℕ) → small_number_of word ≡ Some n → word ≡ decimal n
unfolding small_number_of
small_inv word n e =
    let one = then_inv (number_of word) (at_most 4294967295) n e in
    let fits = cond_some (leb one.0 4294967295) one.0 n one.2 in
    let low : one.0 ≤ 4294967295 = leb-true one.0 4294967295 fits.0 in
    number_inv word one.0 one.1 (omega arith) ∙ ap decimal fits.1
