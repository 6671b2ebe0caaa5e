use Rattle.std.proofs.Common.{◌≡◌, ◌<◌, ◌≤◌, ◌^◌, ◌==◌, ℕ, cond, sym, ap, ◌∙◌, min, ⊎_elim, arith}
use Rattle.std.specs.Int.{bit_at}
use Rattle.std.specs.Int.Bits.{bit_and}
use Rattle.std.proofs.lemmas.Bool.{cond_both, cases_lt, eqb-true, eq-eqb}
use Rattle.std.proofs.lemmas.Nat.Bits.{bit_at_and, bit_at_above, same_from_bits}
use Rattle.occ_choice.proofs.from_dd.Bits.{bit_cases, is_one, is_zero}
use Rattle.occ_weave.specs.States.{JoinsStates}

-- assignments that agree on the bits of a mask give one value
same_value : (mask x y : ℕ) → mask < 2 ^ 64 → ((b : ℕ) → b < 64 → bit_at mask b ≡ 1 → bit_at x b ≡ bit_at y b) → bit_and x mask ≡ bit_and y mask
same_value mask x y small same = same_from_bits (bit_and x mask) (bit_and y mask) (λ b. bit_at_and x mask b ∙ ⊎_elim
    (λ (z : bit_at mask b ≡ 0). zero_min b z)
    (λ (o : bit_at mask b ≡ 1). ap (λ v. min v (bit_at mask b)) (same b (below b o) o))
    (bit_cases mask b) ∙ sym (bit_at_and y mask b))
  where
    zero_min : (b : ℕ) → bit_at mask b ≡ 0 → min (bit_at x b) (bit_at mask b) ≡ min (bit_at y b) (bit_at mask b)
    zero_min b z = omega arith

    below : (b : ℕ) → bit_at mask b ≡ 1 → b < 64
    below b o = ⊎_elim (λ (h : b < 64). h) (λ (h : 64 ≤ b). let above : bit_at mask b ≡ 0 = bit_at_above mask 64 b small h in absurd (omega arith)) (cases_lt b 64)

pub joins_states : (written scope : ℕ) (masks : ℕ → ℕ) (s x1 x2 x : ℕ) → JoinsStates written scope masks s x1 x2 x
joins_states written scope masks s x1 x2 x = record {
  joins = λ parted joined v. ⊎_elim
      (λ (all : (b : ℕ) → bit_at (masks v) b ≡ 1 → bit_at written b ≡ 1).
      let first : bit_and x (masks v) ≡ bit_and x1 (masks v) = same_value (masks v) x x1 (parted.small v) (λ b l o. joined b l ∙ ap (λ c. cond c (bit_at x1 b) (bit_at x2 b)) (is_one written b (all b o))) in
      let second : bit_and x2 (masks v) ≡ bit_and s (masks v) = same_value (masks v) x2 s (parted.small v) (λ b l o. parted.second b l (parted.scoped v b o) (all b o)) in
      cond_both (bit_and x1 (masks v) == bit_and s (masks v)) (bit_and x2 (masks v)) (bit_and x1 (masks v)) (λ n. bit_and x (masks v) ≡ n)
      (λ e. first ∙ eqb-true (bit_and x1 (masks v)) (bit_and s (masks v)) e ∙ sym second) (λ e. first))
      (λ (none : (b : ℕ) → bit_at (masks v) b ≡ 1 → bit_at written b ≡ 0).
      let first : bit_and x (masks v) ≡ bit_and x2 (masks v) = same_value (masks v) x x2 (parted.small v) (λ b l o. joined b l ∙ ap (λ c. cond c (bit_at x1 b) (bit_at x2 b)) (is_zero written b (none b o))) in
      let second : bit_and x1 (masks v) ≡ bit_and s (masks v) = same_value (masks v) x1 s (parted.small v) (λ b l o. parted.first b l (parted.scoped v b o) (none b o)) in
      first ∙ sym (ap (λ c. cond c (bit_and x2 (masks v)) (bit_and x1 (masks v))) (eq-eqb (bit_and x1 (masks v)) (bit_and s (masks v)) second)))
      (parted.whole v);
}
