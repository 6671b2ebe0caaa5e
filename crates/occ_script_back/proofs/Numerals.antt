-- Numbers as they are written, and paths.
use Rattle.std.proofs.Common.{◌≡◌, ℕ, zero, suc, ◌+◌, ◌/◌, ◌%◌, ◌^◌, ◌<◌, ◌≤◌, Bool, true, false, eqb, leb, not, ◌&&◌, List, [], ◌∷◌, ◌++◌, length, get_or, map, Option, Some, None, refl, ap, ◌∙◌, arith, append-nil, length-append, lit≤}
use Rattle.std.specs.Prelude.{decimal, if◌then◌else◌}
use Rattle.std.specs.List.{AllByRecursion, list_all, slice_split, onto_first}
use Rattle.std.proofs.lemmas.Bool.{and_parts, and_from, and_right, not-true, not_from_false, eq-eqb, ne_eqb, le-leb, cond-true}
use Rattle.std.proofs.lemmas.Fmt.{decimal_by_steps_wide, decimal_digit}
use Rattle.std.proofs.lemmas.List.Folds.{list_all-append}
use Rattle.std.proofs.lemmas.List.Splits.{slice_split-cons_no, slice_split-cons_yes}
use Rattle.std.proofs.lemmas.List.Sums.{fold-append}
use Rattle.std.proofs.Math.ListN.{get_or-append}
use Rattle.occ_script_write.specs.occ_lex.Spelling.{is_digit, is_numeral, value_of}
use Rattle.occ_script_write.proofs.from_lex.Numerals.{with_digit}
use Rattle.occ_script_write.specs.occ_script_lines.Texts.{and_place, has_zero_in_front, is_byte, is_slash, numeral_of, path_behind, path_of, place_of, places_of}
use Rattle.occ_script_write.specs.Text.{numbers_text, path_text}

-- ---- pieces of a text

-- no such byte stands in a text
abbrev pub lacks : ℕ → List ℕ → Bool
lacks c text = list_all (λ b. not (is_byte c b)) text

pub split_front : (c : ℕ) (a rest : List ℕ) → lacks c a ≡ true → slice_split (is_byte c) (a ++ c ∷ rest) ≡ a ∷ slice_split (is_byte c) rest
split_front c [] rest h = slice_split-cons_yes (is_byte c) c rest (eq-eqb c c refl)
split_front c (b ∷ a) rest h =
    let parts = and_parts (not (is_byte c b)) (lacks c a) h in
    slice_split-cons_no (is_byte c) b (a ++ c ∷ rest) (not-true _ parts.0) ∙ ap (onto_first b) (split_front c a rest parts.1)

pub split_last : (c : ℕ) (a : List ℕ) → lacks c a ≡ true → slice_split (is_byte c) a ≡ a ∷ []
split_last c [] h = refl
split_last c (b ∷ a) h =
    let parts = and_parts (not (is_byte c b)) (lacks c a) h in
    slice_split-cons_no (is_byte c) b a (not-true _ parts.0) ∙ ap (onto_first b) (split_last c a parts.1)

-- ---- numerals

-- what is known of the digits of a number
record IsWritten (n : ℕ) (ds : List ℕ) : Type 0 where
  digits : list_all is_digit ds ≡ true
  value : value_of ds ≡ n
  some : 0 < length ds
  first : 0 < n → 48 < get_or ds 0 0

a_digit : (d : ℕ) → d < 10 → is_digit (48 + d) ≡ true
a_digit d h = and_from _ _ (le-leb 48 (48 + d) (omega arith)) (le-leb (48 + d) 57 (omega (arith, h)))

one_written : (n : ℕ) → n < 10 → IsWritten n ((48 + n) ∷ [])
one_written n h = record {
  digits = and_from (is_digit (48 + n)) true (a_digit n h) refl;
  value = omega arith;
  some = omega arith;
  first = λ k. omega (arith, k);
}

more_written : (n : ℕ) (ds : List ℕ) → 10 ≤ n → IsWritten (n / 10) ds → IsWritten n (ds ++ (48 + n % 10) ∷ [])
more_written n ds l h =
    let d = 48 + n % 10 in
    let last : with_digit (value_of ds) d ≡ n = ap (λ v. with_digit v d) h.value ∙ omega arith in record {
      digits = list_all-append is_digit ds (d ∷ []) ∙ and_from (list_all is_digit ds) _ h.digits (and_from (is_digit d) true (a_digit (n % 10) (omega arith)) refl);
      value = fold-append with_digit 0 ds (d ∷ []) ∙ last;
      some = omega (arith, length-append ds (d ∷ []));
      first = λ k. omega (arith, get_or-append ds (d ∷ []) 0 0 h.some, h.first (omega (arith, l)));
    }

small_number : (n : ℕ) → n ≤ 4294967295 → n < 10 ^ 64
small_number n h = let most : 4294967296 ≤ 10 ^ 64 = lit≤ tt in omega (arith, h, most)

written : (n : ℕ) → n ≤ 4294967295 → IsWritten n (decimal n)
written n h = decimal_by_steps_wide IsWritten one_written more_written n (small_number n h)

pub number_digits : (n : ℕ) → n ≤ 4294967295 → list_all is_digit (decimal n) ≡ true
number_digits n h = (written n h).digits

-- digits lack each byte that is none
pub digits_lack : (c : ℕ) → is_digit c ≡ false → (ds : List ℕ) → list_all is_digit ds ≡ true → lacks c ds ≡ true
digits_lack c out [] h = refl
digits_lack c out (d ∷ ds) h =
    let parts = and_parts (is_digit d) (list_all is_digit ds) h in
    and_from (not (is_byte c d)) (lacks c ds) (not_from_false (is_byte c d) (ne_eqb d c (λ e. other d e parts.0))) (digits_lack c out ds parts.1)
  where
    other : (d : ℕ) → d ≡ c → is_digit d ≡ true → ⊥
    other d e k = let same : is_digit d ≡ false = ap is_digit e ∙ out in absurd cc

high_first : (ds : List ℕ) → 48 < get_or ds 0 0 → has_zero_in_front ds ≡ false
high_first [] h = refl
high_first (d ∷ []) h = refl
high_first (d ∷ c ∷ ds) h = and_right (leb 2 (length (d ∷ c ∷ ds))) (eqb d 48) (ne_eqb d 48 (λ k. omega (arith, h, k)))

one_digit : (d : ℕ) → has_zero_in_front (d ∷ []) ≡ false
one_digit d = refl

zero_front : (n : ℕ) → n ≤ 4294967295 → has_zero_in_front (decimal n) ≡ false
zero_front zero h = ap has_zero_in_front (decimal_digit 0 (omega arith)) ∙ one_digit (48 + 0)
zero_front (suc n) h = high_first (decimal (suc n)) ((written (suc n) h).first (omega arith))

numeral_is : (ds : List ℕ) → 0 < length ds → list_all is_digit ds ≡ true → is_numeral ds ≡ true
unfolding is_numeral
numeral_is [] some h = absurd (omega (arith, some))
numeral_is (d ∷ ds) some h = h

numeral_there : (n : ℕ) → n ≤ 4294967295 → numeral_of (decimal n) ≡ Some n
unfolding numeral_of
numeral_there n h =
    let w = written n h in
    let good : (is_numeral (decimal n) && leb (value_of (decimal n)) 4294967295) ≡ true = and_from _ _ (numeral_is (decimal n) w.some w.digits) (le-leb (value_of (decimal n)) 4294967295 (omega (arith, w.value, h))) in
    cond-true _ (Some (value_of (decimal n))) None good ∙ ap Some w.value

place_there : (n : ℕ) → n ≤ 4294967295 → place_of (decimal n) ≡ Some n
place_there n h = ap (λ b. if b then None else numeral_of (decimal n)) (zero_front n h) ∙ numeral_there n h

-- ---- paths

abbrev pub AreSmall : List ℕ → Type 0
AreSmall ns = AllByRecursion (λ (n : ℕ). n ≤ 4294967295) ns

split_numbers : (n : ℕ) (ns : List ℕ) → n ≤ 4294967295 → AreSmall ns → slice_split is_slash (decimal n ++ numbers_text ns) ≡ decimal n ∷ map decimal ns
split_numbers n [] h k = ap (slice_split is_slash) (append-nil (decimal n)) ∙ split_last 47 (decimal n) (digits_lack 47 refl (decimal n) (number_digits n h))
split_numbers n (m ∷ ms) h k =
    split_front 47 (decimal n) (decimal m ++ numbers_text ms) (digits_lack 47 refl (decimal n) (number_digits n h)) ∙ ap (λ ps. decimal n ∷ ps) (split_numbers m ms k.0 k.1)

places_there : (ns : List ℕ) → AreSmall ns → places_of (map decimal ns) ≡ Some ns
places_there [] h = refl
places_there (n ∷ ns) h = both (place_of (decimal n)) (places_of (map decimal ns)) (place_there n h.0) (places_there ns h.1)
  where
    both : (o : Option ℕ) (os : Option (List ℕ)) → o ≡ Some n → os ≡ Some ns → and_place o os ≡ Some (n ∷ ns)
    both o os e f = ap (λ p. and_place p os) e ∙ ap (and_place (Some n)) f

behind_is : (ds rest : List ℕ) → 0 < length ds → path_behind (ds ++ rest) ≡ places_of (slice_split is_slash (ds ++ rest))
behind_is [] rest h = absurd (omega (arith, h))
behind_is (d ∷ ds) rest h = refl

pub path_there : (path : List ℕ) → AreSmall path → path_of (path_text path) ≡ Some path
path_there [] h = refl
path_there (n ∷ ns) h =
    behind_is (decimal n) (numbers_text ns) (written n h.0).some ∙ ap places_of (split_numbers n ns h.0 h.1) ∙ places_there (n ∷ ns) h
