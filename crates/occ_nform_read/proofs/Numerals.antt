-- The value of a numeral, digit by digit, and numbers below a bound.
use Rattle.std.proofs.Common.{◌≡◌, ℕ, ◌+◌, ◌-◌, ◌*◌, ◌<◌, ◌≤◌, true, false, eqb, leb, ltb, List, [], ◌∷◌, length, get_or, take, drop, fold, Option, Some, None, refl, sym, ap, ◌∙◌, arith, ⊎_elim}
use Rattle.std.specs.List.{list_all}
use Rattle.std.proofs.lemmas.Bool.{both_ways, and_parts, leb-true, leb-false, le-leb, lt-leb, le-ltb, ne_eqb, cases_Bool, cond-true, cond-false}
use Rattle.std.proofs.lemmas.List.{take-append-drop, take_all}
use Rattle.std.proofs.lemmas.List.Sums.{fold-append, fold_more}
use Rattle.std.proofs.lemmas.List.Folds.{list_all_at}
use Rattle.occ_nform_table.specs.occ_lex.Spelling.{is_digit, is_numeral, value_of}
use Rattle.occ_nform_table.specs.Words.{then_read, at_most, number_of, small_number_of}
use Rattle.occ_nform_table.specs.Lines.{below, is_number}

abbrev pub with_digit : ℕ → ℕ → ℕ
with_digit value digit = 10 * value + (digit - 48)

-- no further digit makes the value smaller
value_grows : (start : ℕ) (digits : List ℕ) → start ≤ fold with_digit start digits
value_grows start [] = omega arith
value_grows start (digit ∷ digits) =
    let more : with_digit start digit ≤ fold with_digit (with_digit start digit) digits = value_grows (with_digit start digit) digits in
    omega (arith, more)

value_front : (digits : List ℕ) (n : ℕ) → value_of (take n digits) ≤ value_of digits
value_front digits n =
    let split : value_of digits ≡ fold with_digit (value_of (take n digits)) (drop n digits) = ap (fold with_digit 0) (sym (take-append-drop n digits)) ∙ fold-append with_digit 0 (take n digits) (drop n digits) in
    omega (arith, split, value_grows (value_of (take n digits)) (drop n digits))

digits_are : (text : List ℕ) → is_numeral text ≡ true → list_all is_digit text ≡ true
unfolding is_numeral
digits_are [] h = refl
digits_are (byte ∷ rest) h = h

pub digit_low : (text : List ℕ) (i : ℕ) → is_numeral text ≡ true → i < length text → 48 ≤ get_or text i 0
digit_low text i h within = ⊎_elim
    (λ (t : is_digit (get_or text i 0) ≡ true). leb-true 48 (get_or text i 0) (and_parts (leb 48 (get_or text i 0)) (leb (get_or text i 0) 57) t).0)
    (λ (f : is_digit (get_or text i 0) ≡ false). absurd (both_ways (list_all is_digit text) (list_all_at is_digit text i 0 within f) (digits_are text h)))
    (cases_Bool (is_digit (get_or text i 0)))

pub value_more : (text : List ℕ) (i : ℕ) → i < length text → value_of (take (i + 1) text) ≡ with_digit (value_of (take i text)) (get_or text i 0)
value_more text i within = fold_more with_digit 0 text i 0 within

pub too_large : (text : List ℕ) (i value : ℕ) → i < length text → value ≡ value_of (take i text) → 4294967295 < with_digit value (get_or text i 0) → None ≡ at_most 4294967295 (value_of text)
too_large text i value within e h =
    let large : 4294967295 < value_of text = omega (arith, value_front text (i + 1), value_more text i within, e, h) in
    sym (cond-false _ (Some (value_of text)) None (lt-leb (value_of text) 4294967295 large))

pub value_is : (text : List ℕ) (n value : ℕ) → length text ≤ n → value ≡ value_of (take n text) → value ≤ 4294967295 → Some value ≡ at_most 4294967295 (value_of text)
value_is text n value whole e small =
    let same : value ≡ value_of text = e ∙ ap value_of (take_all n text whole) in
    ap Some same ∙ sym (cond-true _ (Some (value_of text)) None (le-leb (value_of text) 4294967295 (omega (arith, same, small))))

-- ---- numbers below a bound

-- what is read in two steps
pub then_then : {A B C : Type 0} (o : Option A) (f : A → Option B) (g : B → Option C) → then_read o (λ x. then_read (f x) g) ≡ then_read (then_read o f) g
then_then None f g = refl
then_then (Some x) f g = refl

-- a number that is too great isn't below n
above : (n m : ℕ) → n ≤ 4294967295 → then_read (at_most 4294967295 m) (below n) ≡ below n m
above n m few = ⊎_elim
    (λ (t : leb m 4294967295 ≡ true). ap (λ o. then_read o (below n)) (cond-true (leb m 4294967295) (Some m) None t))
    (λ (f : leb m 4294967295 ≡ false).
    ap (λ o. then_read o (below n)) (cond-false (leb m 4294967295) (Some m) None f)
    ∙ sym (cond-false (ltb m n) (Some m) None (le-ltb m n (omega (arith, few, leb-false m 4294967295 f)))))
    (cases_Bool (leb m 4294967295))

pub lower_is : (word : List ℕ) (n : ℕ) → n ≤ 4294967295 → then_read (small_number_of word) (below n) ≡ then_read (number_of word) (below n)
unfolding small_number_of
lower_is word n few = from (number_of word)
  where
    from : (o : Option ℕ) → then_read (then_read o (at_most 4294967295)) (below n) ≡ then_read o (below n)
    from None = refl
    from (Some m) = above n m few

-- and isn't n
other : (n m : ℕ) → n ≤ 4294967295 → is_number n (at_most 4294967295 m) ≡ eqb m n
other n m few = ⊎_elim
    (λ (t : leb m 4294967295 ≡ true). ap (is_number n) (cond-true (leb m 4294967295) (Some m) None t))
    (λ (f : leb m 4294967295 ≡ false).
    ap (is_number n) (cond-false (leb m 4294967295) (Some m) None f)
    ∙ sym (ne_eqb m n (λ e. absurd (omega (arith, e, few, leb-false m 4294967295 f)))))
    (cases_Bool (leb m 4294967295))

pub number_is : (word : List ℕ) (n : ℕ) → n ≤ 4294967295 → is_number n (small_number_of word) ≡ is_number n (number_of word)
unfolding small_number_of
number_is word n few = from (number_of word)
  where
    from : (o : Option ℕ) → is_number n (then_read o (at_most 4294967295)) ≡ is_number n o
    from None = refl
    from (Some m) = other n m few
