use Rattle.std.proofs.Common.{◌≡◌, ◌≢◌, ◌⊎◌, ℕ, ◌+◌, ◌-◌, ◌%◌, ◌<◌, ◌≤◌, ◌^◌, ◌==◌, true, false, cond, refl, ap, ◌∙◌, inl, inr, ⊎_elim, arith, eq-eqb}
use Rattle.std.specs.Int.{bit_at}
use Rattle.std.proofs.lemmas.Bool.{cond_both, cases_lt, eqb-true, eqb-false, ne_eqb}
use Rattle.std.proofs.lemmas.Nat.{xor_lt, pow_below}
use Rattle.std.proofs.lemmas.Nat.Bits.{bit_at-lt, bit_at_xor, bit_at-pow_same, bit_at-pow_other}
use Rattle.occ_dd.specs.Assignment.{turned, with_bit}

-- a bit is 0 or 1
pub bit_cases : (x b : ℕ) → (bit_at x b ≡ 0) ⊎ (bit_at x b ≡ 1)
bit_cases x b = ⊎_elim (λ (h : bit_at x b < 1). inl (omega arith)) (λ (h : 1 ≤ bit_at x b). inr (omega (arith, bit_at-lt x b))) (cases_lt (bit_at x b) 1)

pub is_one : (x b : ℕ) → bit_at x b ≡ 1 → (bit_at x b == 1) ≡ true
is_one x b e = eq-eqb _ _ e

pub is_zero : (x b : ℕ) → bit_at x b ≡ 0 → (bit_at x b == 1) ≡ false
is_zero x b e = ne_eqb _ _ (λ f. omega arith)

pub one_is : (x b : ℕ) → (bit_at x b == 1) ≡ true → bit_at x b ≡ 1
one_is x b e = eqb-true _ _ e

pub zero_is : (x b : ℕ) → (bit_at x b == 1) ≡ false → bit_at x b ≡ 0
zero_is x b e = ⊎_elim (λ (h : bit_at x b ≡ 0). h) (λ (h : bit_at x b ≡ 1). absurd (eqb-false _ _ e h)) (bit_cases x b)

mod_zero : (v : ℕ) → v < 2 → (v + 0) % 2 ≡ v
mod_zero v h = omega arith

mod_one : (v : ℕ) → v < 2 → (v + 1) % 2 ≡ 1 - v
mod_one v h = omega arith

-- turning a bit turns it, and no other
pub bit_at-turned_other : (x b k : ℕ) → k ≢ b → bit_at (turned x b) k ≡ bit_at x k
bit_at-turned_other x b k ne =
    bit_at_xor x (2 ^ b) k ∙ ap (λ v. (bit_at x k + v) % 2) (bit_at-pow_other b k ne) ∙ mod_zero (bit_at x k) (bit_at-lt x k)

pub bit_at-turned_same : (x b : ℕ) → bit_at (turned x b) b ≡ 1 - bit_at x b
bit_at-turned_same x b =
    bit_at_xor x (2 ^ b) b ∙ ap (λ v. (bit_at x b + v) % 2) (bit_at-pow_same b) ∙ mod_one (bit_at x b) (bit_at-lt x b)

pub bit_at-with_bit_same : (x b v : ℕ) → v < 2 → bit_at (with_bit x b v) b ≡ v
bit_at-with_bit_same x b v h =
    cond_both (bit_at x b == v) x (turned x b) (λ y. bit_at y b ≡ v)
    (λ e. eqb-true _ _ e)
    (λ e. let differs : bit_at x b ≢ v = eqb-false _ _ e in bit_at-turned_same x b ∙ omega (arith, bit_at-lt x b))

pub bit_at-with_bit_other : (x b v k : ℕ) → k ≢ b → bit_at (with_bit x b v) k ≡ bit_at x k
bit_at-with_bit_other x b v k ne =
    cond_both (bit_at x b == v) x (turned x b) (λ y. bit_at y k ≡ bit_at x k) (λ _. refl) (λ _. bit_at-turned_other x b k ne)

pub turned_lt : (x b n : ℕ) → b < n → x < 2 ^ n → turned x b < 2 ^ n
turned_lt x b n below h = xor_lt n x (2 ^ b) h (pow_below b n below)

pub with_bit_lt : (x b v n : ℕ) → b < n → x < 2 ^ n → with_bit x b v < 2 ^ n
with_bit_lt x b v n below h = cond_both (bit_at x b == v) x (turned x b) (λ y. y < 2 ^ n) (λ _. h) (λ _. turned_lt x b n below h)

-- a bit that has the value already
pub with_bit_same : (x b v : ℕ) → bit_at x b ≡ v → with_bit x b v ≡ x
with_bit_same x b v e = ap (λ t. cond t x (turned x b)) (eq-eqb _ _ e)
