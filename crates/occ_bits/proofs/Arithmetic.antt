-- Facts on plain numbers that the circuits need.
use Rattle.std.proofs.Common.{◌≡◌, ℕ, suc, ◌+◌, ◌-◌, ◌*◌, ◌/◌, ◌%◌, ◌^◌, ◌<◌, ◌≤◌, ◌==◌, Bool, true, false, nat_lt, if◌then◌else◌, sym, ap, ◌∙◌, arith, ⊎_elim}
use Rattle.std.proofs.Math.Nat.{pow-succ', mod-eq_of_lt, add-mul-mod_self_left, div-div-eq-div-mul}
use Rattle.std.proofs.lemmas.Bool.{cases_Bool, eqb-true, eqb-false, lt-ltb, le-ltb}
use Rattle.std.proofs.lemmas.Nat.{div-add-mod', pow-add}
use Rattle.std.proofs.lemmas.Nat.Bits.{bit_at-lt, bit_at_cat_low}
use Rattle.std.specs.Int.{bit_at}

pub double_more : (n : ℕ) → 2 ^ (n + 1) ≡ 2 * 2 ^ n
double_more n = ap (λ m. 2 ^ m) (one_more n) ∙ pow-succ' 2 n
  where
    one_more : (n : ℕ) → n + 1 ≡ suc n
    one_more n = omega arith

-- one digit of a sum
pub sum_step : (m n p q e next l r carry left right dl dr total : ℕ) → q ≡ 2 * p → e + 2 * next ≡ l + r + carry → m ≡ n + p * e → dl ≡ l + 2 * left → dr ≡ r + 2 * right → n + p * (carry + dl + dr) ≡ total → m + q * (next + left + right) ≡ total
sum_step m n p q e next l r carry left right dl dr total double digits is left_is right_is before =
    let times : p * (e + 2 * next) ≡ p * (l + r + carry) = ap (λ m. p * m) digits in
    let times_left : p * dl ≡ p * (l + 2 * left) = ap (λ m. p * m) left_is in
    let times_right : p * dr ≡ p * (r + 2 * right) = ap (λ m. p * m) right_is in
    ap (λ k. m + k * (next + left + right)) double ∙ omega (arith, times, times_left, times_right, before, is)

-- one digit of a difference
pub difference_step : (m n p q e next l r borrow left right dl dr a b : ℕ) → q ≡ 2 * p → e + r + borrow ≡ l + 2 * next → m ≡ n + p * e → dl ≡ l + 2 * left → dr ≡ r + 2 * right → n + b + p * dl ≡ a + p * (borrow + dr) → m + b + q * left ≡ a + q * (next + right)
difference_step m n p q e next l r borrow left right dl dr a b double digits is left_is right_is before =
    let times : p * (e + r + borrow) ≡ p * (l + 2 * next) = ap (λ m. p * m) digits in
    let times_left : p * dl ≡ p * (l + 2 * left) = ap (λ m. p * m) left_is in
    let times_right : p * dr ≡ p * (r + 2 * right) = ap (λ m. p * m) right_is in
    let step : m + b + 2 * p * left ≡ a + 2 * p * (next + right) = omega (arith, times, times_left, times_right, before, is) in
    ap (λ k. m + b + k * left) double ∙ step ∙ sym (ap (λ k. a + k * (next + right)) double)

pub sum_of : (n p c a b : ℕ) → n < p → n + p * (c + 0 + 0) ≡ a + b → n ≡ (a + b) % p
sum_of n p c a b h e = sym (ap (λ m. m % p) (sym e) ∙ add-mul-mod_self_left n p (c + 0 + 0) ∙ mod-eq_of_lt h)

pub difference_of : (n p d a b : ℕ) → n < p → b < p → d < 2 → n + b ≡ a + p * d → n ≡ (a + (p - b)) % p
difference_of n p d a b h k small e = ⊎_elim
    (λ (t : (d == 0) ≡ true). zero_case (eqb-true d 0 t))
    (λ (t : (d == 0) ≡ false). one_case (let ne : d ≡ 0 → ⊥ = eqb-false d 0 t in omega arith))
    (cases_Bool (d == 0))
  where
    zero_case : d ≡ 0 → n ≡ (a + (p - b)) % p
    zero_case z =
        let same : n + b ≡ a = e ∙ ap (λ m. a + p * m) z ∙ omega arith in
        let whole : a + (p - b) ≡ n + p * 1 = omega (arith, same) in
        sym (ap (λ m. m % p) whole ∙ add-mul-mod_self_left n p 1 ∙ mod-eq_of_lt h)

    one_case : d ≡ 1 → n ≡ (a + (p - b)) % p
    one_case z =
        let same : n + b ≡ a + p = e ∙ ap (λ m. a + p * m) z ∙ omega arith in
        let whole : a + (p - b) ≡ n = omega (arith, same) in
        sym (ap (λ m. m % p) whole ∙ mod-eq_of_lt h)

pub less_of : (t : Bool) (n p a b : ℕ) → n < p → n + b ≡ a + p * (if t then 1 else 0) → t ≡ nat_lt a b
less_of true n p a b h e =
    let lt : a < b = omega (arith, h, e) in
    sym (lt-ltb a b lt)
less_of false n p a b h e =
    let le : b ≤ a = omega (arith, h, e) in
    sym (le-ltb a b le)

-- ---- bits in a row
pub low_bit : (y n i : ℕ) → i < n → bit_at (y % 2 ^ n) i ≡ bit_at y i
low_bit y n i h = sym (bit_at_cat_low (y / 2 ^ n) n (y % 2 ^ n) i h) ∙ ap (λ m. bit_at m i) (div-add-mod' y (2 ^ n))

pub higher_bit : (x f i : ℕ) → bit_at (x / 2 ^ f) i ≡ bit_at x (f + i)
higher_bit x f i = ap (λ m. m % 2) (div-div-eq-div-mul x (2 ^ f) (2 ^ i) ∙ ap (λ p. x / p) (sym (pow-add 2 f i)))

pub bit_is_one : (x i : ℕ) → (if bit_at x i == 1 then 1 else 0) ≡ bit_at x i
bit_is_one x i = of_two (bit_at x i) (bit_at-lt x i)
  where
    of_two : (b : ℕ) → b < 2 → (if b == 1 then 1 else 0) ≡ b
    of_two b h = ⊎_elim
        (λ (t : (b == 1) ≡ true). ap (λ (c : Bool). if c then 1 else 0) t ∙ sym (eqb-true b 1 t))
        (λ (t : (b == 1) ≡ false). ap (λ (c : Bool). if c then 1 else 0) t ∙ (let ne : b ≡ 1 → ⊥ = eqb-false b 1 t in omega arith))
        (cases_Bool (b == 1))
