-- The circuits at the end of their loops.
use Rattle.std.proofs.Common.{◌≡◌, ℕ, suc, ◌+◌, ◌-◌, ◌*◌, ◌%◌, ◌^◌, ◌<◌, Bool, true, false, not, bit_and, bit_or, bit_xor, min, max, if◌then◌else◌, List, [], ◌∷◌, length, get_or, drop, refl, sym, ap, ◌∙◌, subst, arith}
use Rattle.std.specs.Int.{bit_at}
use Rattle.std.proofs.Math.Seq.{drop-length}
use Rattle.std.proofs.lemmas.Nat.{and_le_l, or_lt, xor_lt}
use Rattle.std.proofs.lemmas.Nat.Bits.{bit_at_and, bit_at_or, bit_at_xor}
use Rattle.occ_dd.specs.Store.{has}
use Rattle.occ_dd.specs.declared.set.SetId.{SetId}
use Rattle.occ_dd.specs.declared.store.Store.{Store}
use Rattle.occ_bits.specs.Words.{digit, number_at, IsWord}
use Rattle.occ_bits.specs.Circuits.{IsSumSoFar, IsDifferenceSoFar, IsDifference, HasBits, no_set, row_at}
use Rattle.occ_bits.proofs.Arithmetic.{sum_of, difference_of, less_of}
use Rattle.occ_bits.proofs.Numbers.{digit_small, double, number_below, number_bit, word_from_bits}

nothing_left : (s : Store) (sets : List SetId) (n x : ℕ) → length sets ≡ n → number_at s (drop n sets) x ≡ 0
nothing_left s sets n x e = ap (λ m. number_at s (drop m sets) x) (sym e) ∙ ap (λ r. number_at s r x) (drop-length sets)

below : (s : Store) (sets : List SetId) (n x : ℕ) → length sets ≡ n → number_at s sets x < 2 ^ n
below s sets n x e = subst (λ m. number_at s sets x < 2 ^ m) e (number_below s sets x)

pub sum_end : (first now : Store) (left right : List SetId) (k : ℕ) (sum : List SetId) (carry : SetId) → k ≡ length left → length left ≡ length right → IsSumSoFar first now left right k sum carry → IsWord now (length left) sum (λ x. (number_at first left x + number_at first right x) % 2 ^ length left)
sum_end first now left right k sum carry at_end same so_far = record {
  digits = so_far.digits ∙ at_end;
  known = so_far.known;
  number = λ x. subst (λ n. number_at now sum x ≡ (number_at first left x + number_at first right x) % 2 ^ n) at_end
      (sum_of (number_at now sum x) (2 ^ k) (digit now carry x) (number_at first left x) (number_at first right x) (below now sum k x so_far.digits)
      (sym (ap (λ n. number_at now sum x + 2 ^ k * (digit now carry x + n + number_at first (drop k right) x)) (nothing_left first left k x (sym at_end)) ∙ ap (λ n. number_at now sum x + 2 ^ k * (digit now carry x + 0 + n)) (nothing_left first right k x (sym same ∙ sym at_end))) ∙ so_far.adds x));
}

pub difference_end : (first now : Store) (left right : List SetId) (k : ℕ) (difference : List SetId) (borrow : SetId) → k ≡ length left → length left ≡ length right → IsDifferenceSoFar first now left right k difference borrow → IsDifference first now left right difference borrow
difference_end first now left right k difference borrow at_end same so_far = record {
  digits = so_far.digits ∙ at_end;
  known = so_far.known;
  number = λ x. subst (λ n. number_at now difference x + number_at first right x ≡ number_at first left x + 2 ^ n * digit now borrow x) at_end (whole x);
  less_known = so_far.borrow_known;
  members = λ x. less_of (has now borrow x) (number_at now difference x) (2 ^ k) (number_at first left x) (number_at first right x) (below now difference k x so_far.digits) (whole x);
}
  where
    drop_zeros : (n b a p d l r : ℕ) → l ≡ 0 → r ≡ 0 → n + b + p * l ≡ a + p * (d + r) → n + b ≡ a + p * d
    drop_zeros n b a p d l r e f h =
        let left_gone : p * l ≡ 0 = ap (λ m. p * m) e ∙ omega arith in
        let right_gone : p * (d + r) ≡ p * d = ap (λ m. p * (d + m)) f ∙ omega arith in
        omega (arith, left_gone, right_gone, h)

    whole : (x : ℕ) → number_at now difference x + number_at first right x ≡ number_at first left x + 2 ^ k * digit now borrow x
    whole x = drop_zeros (number_at now difference x) (number_at first right x) (number_at first left x) (2 ^ k) (digit now borrow x) (number_at first (drop k left) x) (number_at first (drop k right) x)
        (nothing_left first left k x (sym at_end)) (nothing_left first right k x (sym same ∙ sym at_end)) (so_far.takes x)

pub difference_word : (old new : Store) (left right difference : List SetId) (less : SetId) → length left ≡ length right → IsDifference old new left right difference less → IsWord new (length left) difference (λ x. (number_at old left x + (2 ^ length left - number_at old right x)) % 2 ^ length left)
difference_word old new left right difference less same is = record {
  digits = is.digits;
  known = is.known;
  number = λ x. difference_of (number_at new difference x) (2 ^ length left) (digit new less x) (number_at old left x) (number_at old right x)
      (below new difference (length left) x is.digits) (below old right (length left) x (sym same)) (digit_small new less x) (is.number x);
}

-- ---- gates
and_rows : (l r : Bool) → (if get_or (false ∷ false ∷ false ∷ true ∷ []) ((if l then 1 else 0) + 2 * ((if r then 1 else 0) + 2 * 0)) false then 1 else 0) ≡ min (if l then 1 else 0) (if r then 1 else 0)
and_rows true true = refl
and_rows true false = refl
and_rows false true = refl
and_rows false false = refl

or_rows : (l r : Bool) → (if get_or (false ∷ true ∷ true ∷ true ∷ []) ((if l then 1 else 0) + 2 * ((if r then 1 else 0) + 2 * 0)) false then 1 else 0) ≡ max (if l then 1 else 0) (if r then 1 else 0)
or_rows true true = refl
or_rows true false = refl
or_rows false true = refl
or_rows false false = refl

xor_rows : (l r : Bool) → (if get_or (false ∷ true ∷ true ∷ false ∷ []) ((if l then 1 else 0) + 2 * ((if r then 1 else 0) + 2 * 0)) false then 1 else 0) ≡ ((if l then 1 else 0) + (if r then 1 else 0)) % 2
xor_rows true true = refl
xor_rows true false = refl
xor_rows false true = refl
xor_rows false false = refl

pub and_word : (old new : Store) (left right word : List SetId) → length left ≡ length right → HasBits new (length left) word (row_at old (false ∷ false ∷ false ∷ true ∷ []) left right) → IsWord new (length left) word (λ x. bit_and (number_at old left x) (number_at old right x))
and_word old new left right word same bits = word_from_bits new (length left) word _ _ bits
    (λ x. omega (arith, and_le_l (number_at old left x) (number_at old right x), number_below old left x))
    (λ i x h. and_rows (has old (get_or left i no_set) x) (has old (get_or right i no_set) x)
    ∙ sym (bit_at_and (number_at old left x) (number_at old right x) i ∙ ap (λ b. min b (bit_at (number_at old right x) i)) (number_bit old left x i no_set h) ∙ ap (λ b. min (digit old (get_or left i no_set) x) b) (number_bit old right x i no_set (subst (λ n. i < n) same h))))

pub or_word : (old new : Store) (left right word : List SetId) → length left ≡ length right → HasBits new (length left) word (row_at old (false ∷ true ∷ true ∷ true ∷ []) left right) → IsWord new (length left) word (λ x. bit_or (number_at old left x) (number_at old right x))
or_word old new left right word same bits = word_from_bits new (length left) word _ _ bits
    (λ x. or_lt (length left) (number_at old left x) (number_at old right x) (number_below old left x) (below old right (length left) x (sym same)))
    (λ i x h. or_rows (has old (get_or left i no_set) x) (has old (get_or right i no_set) x)
    ∙ sym (bit_at_or (number_at old left x) (number_at old right x) i ∙ ap (λ b. max b (bit_at (number_at old right x) i)) (number_bit old left x i no_set h) ∙ ap (λ b. max (digit old (get_or left i no_set) x) b) (number_bit old right x i no_set (subst (λ n. i < n) same h))))

pub xor_word : (old new : Store) (left right word : List SetId) → length left ≡ length right → HasBits new (length left) word (row_at old (false ∷ true ∷ true ∷ false ∷ []) left right) → IsWord new (length left) word (λ x. bit_xor (number_at old left x) (number_at old right x))
xor_word old new left right word same bits = word_from_bits new (length left) word _ _ bits
    (λ x. xor_lt (length left) (number_at old left x) (number_at old right x) (number_below old left x) (below old right (length left) x (sym same)))
    (λ i x h. xor_rows (has old (get_or left i no_set) x) (has old (get_or right i no_set) x)
    ∙ sym (bit_at_xor (number_at old left x) (number_at old right x) i ∙ ap (λ b. (b + bit_at (number_at old right x) i) % 2) (number_bit old left x i no_set h) ∙ ap (λ b. (digit old (get_or left i no_set) x + b) % 2) (number_bit old right x i no_set (subst (λ n. i < n) same h))))

-- ---- each digit turned
turned_number : (old new : Store) (x : ℕ) (digits word : List SetId) → length word ≡ length digits → ((i : ℕ) → i < length digits → has new (get_or word i no_set) x ≡ not (has old (get_or digits i no_set) x)) → number_at new word x + number_at old digits x + 1 ≡ 2 ^ length digits
turned_number old new x [] [] same each = refl
turned_number old new x [] (b ∷ word) same each = absurd (omega (arith, same))
turned_number old new x (a ∷ digits) [] same each = absurd (omega (arith, same))
turned_number old new x (a ∷ digits) (b ∷ word) same each =
    step (digit new b x) (digit old a x) (number_at new word x) (number_at old digits x) (2 ^ length digits) (2 ^ suc (length digits)) (one_each (has new b x) (has old a x) (each 0 (omega arith)))
    (turned_number old new x digits word (omega (arith, same)) (λ i h. each (suc i) (omega (arith, h)))) (double (length digits))
  where
    step : (d e n m p q : ℕ) → d + e ≡ 1 → n + m + 1 ≡ p → q ≡ 2 * p → d + 2 * n + (e + 2 * m) + 1 ≡ q
    step d e n m p q h k f = omega arith

    one_each : (b a : Bool) → b ≡ not a → (if b then 1 else 0) + (if a then 1 else 0) ≡ 1
    one_each true true h = absurd (cc)
    one_each true false h = refl
    one_each false true h = refl
    one_each false false h = absurd (cc)

pub turned_word : (old new : Store) (digits word : List SetId) → HasBits new (length digits) word (λ i x. not (has old (get_or digits i no_set) x)) → IsWord new (length digits) word (λ x. 2 ^ length digits - 1 - number_at old digits x)
turned_word old new digits word bits = record {
  digits = bits.digits;
  known = bits.known;
  number = λ x. let whole = turned_number old new x digits word bits.digits (λ i h. bits.each i x no_set h) in omega (arith, whole);
}
