-- What changes in two steps.
use Rattle.std.proofs.Common.{◌≡◌, ◌<◌, ◌^◌, ◌+◌, ◌%◌, ◌⊎◌, ℕ, min, sym, ap, ◌∙◌, arith, bit_xor}
use Rattle.std.proofs.lemmas.Nat.Bits.{bit_at_and, bit_at_xor, same_from_bits}
use Rattle.std.specs.Int.{bit_at}
use Rattle.std.specs.Int.Bits.{and_lt, xor_assoc, xor_lt}
use Rattle.occ_compare.proofs.from_dd.Bits.{bit_cases}
use Rattle.occ_norm_alt.specs.occ_norm_frame.After.{change_of}

pub bit_of_change : (keep x y i : ℕ) → bit_at (change_of keep x y) i ≡ min ((bit_at x i + bit_at y i) % 2) (bit_at keep i)
bit_of_change keep x y i = bit_at_and (bit_xor x y) keep i ∙ ap (λ b. min b (bit_at keep i)) (bit_at_xor x y i)

-- two turns of a bit are one
turns : (a b c : ℕ) → (a ≡ 0) ⊎ (a ≡ 1) → (b ≡ 0) ⊎ (b ≡ 1) → (c ≡ 0) ⊎ (c ≡ 1) → (k : ℕ) → (k ≡ 0) ⊎ (k ≡ 1)
    → (min ((a + b) % 2) k + min ((b + c) % 2) k) % 2 ≡ min ((a + c) % 2) k
turns a b c p q r k s = omega (arith, p, q, r, s)

pub change_joined : (keep x y u : ℕ) → bit_xor (change_of keep x y) (change_of keep y u) ≡ change_of keep x u
change_joined keep x y u = same_from_bits _ _ (λ i.
    bit_at_xor (change_of keep x y) (change_of keep y u) i
    ∙ (λ j. (bit_of_change keep x y i j + bit_of_change keep y u i j) % 2)
    ∙ turns (bit_at x i) (bit_at y i) (bit_at u i) (bit_cases x i) (bit_cases y i) (bit_cases u i) (bit_at keep i) (bit_cases keep i)
    ∙ sym (bit_of_change keep x u i))

pub change_twice : (z keep x y u : ℕ) → bit_xor (bit_xor z (change_of keep x y)) (change_of keep y u) ≡ bit_xor z (change_of keep x u)
change_twice z keep x y u = xor_assoc z (change_of keep x y) (change_of keep y u) ∙ ap (bit_xor z) (change_joined keep x y u)

pub change_lt : (z keep x y : ℕ) → z < 2 ^ 64 → x < 2 ^ 64 → y < 2 ^ 64 → keep < 2 ^ 64 → bit_xor z (change_of keep x y) < 2 ^ 64
change_lt z keep x y hz hx hy hk = xor_lt 64 z (change_of keep x y) hz (and_lt 64 (bit_xor x y) keep (xor_lt 64 x y hx hy) hk)
