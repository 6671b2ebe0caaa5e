-- The bits of ends, with those before in place of some of them.
use Rattle.std.proofs.Common.{◌≡◌, ◌≢◌, ◌⊎◌, ◌<◌, ◌≤◌, ◌^◌, ◌==◌, ℕ, zero, suc, cond, ⊎_elim, inl, inr, refl, sym, ap, ◌∙◌, subst, arith}
use Rattle.std.proofs.lemmas.Bool.{cond_both, cond-true, cond-false, cases_lt, cases_eq}
use Rattle.std.proofs.lemmas.Nat.Bits.{bit_at-lt}
use Rattle.std.specs.Int.{bit_at}
use Rattle.occ_norm_frame.specs.occ_dd.Assignment.{with_bit}
use Rattle.occ_norm_frame.proofs.from_dd.Bits.{is_one, is_zero, bit_at-with_bit_same, bit_at-with_bit_other, with_bit_lt}
use Rattle.occ_norm_par.specs.Joints.{image, stepped}
use Rattle.occ_norm_par.specs.declared.joint.Joint.{Joint}

pub below_or_last : (n k : ℕ) → k < suc n → (k < n) ⊎ (k ≡ n)
below_or_last n k h = ⊎_elim (λ (l : k < n). inl l) (λ (l : n ≤ k). inr (omega arith)) (cases_lt k n)

-- ---- one step
module _ (j : Joint) (bit v z : ℕ) where
  pub stepped_free : bit_at j.needed bit ≡ 0 → stepped j bit v z ≡ z
  stepped_free e = cond-false (bit_at j.needed bit == 1) (cond (bit_at j.written bit == 1) z (with_bit z bit v)) z (is_zero j.needed bit e)

  stepped_needed : bit_at j.needed bit ≡ 1 → stepped j bit v z ≡ cond (bit_at j.written bit == 1) z (with_bit z bit v)
  stepped_needed e = cond-true (bit_at j.needed bit == 1) (cond (bit_at j.written bit == 1) z (with_bit z bit v)) z (is_one j.needed bit e)

  pub stepped_same : bit_at j.needed bit ≡ 1 → bit_at j.written bit ≡ 0 → stepped j bit v z ≡ with_bit z bit v
  stepped_same e f = stepped_needed e ∙ cond-false (bit_at j.written bit == 1) z (with_bit z bit v) (is_zero j.written bit f)

  pub stepped_written : bit_at j.needed bit ≡ 1 → bit_at j.written bit ≡ 1 → stepped j bit v z ≡ z
  stepped_written e f = stepped_needed e ∙ cond-true (bit_at j.written bit == 1) z (with_bit z bit v) (is_one j.written bit f)

  -- a property of all that a step can make
  stepped_any : (P : ℕ → Type 0) → P z → P (with_bit z bit v) → P (stepped j bit v z)
  stepped_any P same fixed =
      cond_both (bit_at j.needed bit == 1) (cond (bit_at j.written bit == 1) z (with_bit z bit v)) z P
      (λ _. cond_both (bit_at j.written bit == 1) z (with_bit z bit v) P (λ _. same) (λ _. fixed))
      (λ _. same)

  pub stepped_lt : bit < 64 → z < 2 ^ 64 → stepped j bit v z < 2 ^ 64
  stepped_lt h k = stepped_any (λ y. y < 2 ^ 64) k (with_bit_lt z bit v 64 h k)

  stepped_other : (k : ℕ) → k ≢ bit → bit_at (stepped j bit v z) k ≡ bit_at z k
  stepped_other k ne = stepped_any (λ y. bit_at y k ≡ bit_at z k) refl (bit_at-with_bit_other z bit v k ne)

-- ---- all steps
pub image_lt : (j : Joint) (n x z : ℕ) → n ≤ 64 → z < 2 ^ 64 → image j n x z < 2 ^ 64
unfolding image
image_lt j zero x z h k = k
image_lt j (suc n) x z h k = stepped_lt j n (bit_at x n) (image j n x z) (omega (arith, h)) (image_lt j n x z (omega (arith, h)) k)

-- a bit on which nothing depends stays
pub image_free : (j : Joint) (n x z k : ℕ) → bit_at j.needed k ≡ 0 → bit_at (image j n x z) k ≡ bit_at z k
unfolding image
image_free j zero x z k e = refl
image_free j (suc n) x z k e = ⊎_elim
    (λ (h : k ≡ n). ap (λ y. bit_at y k) (stepped_free j n (bit_at x n) (image j n x z) (ap (bit_at j.needed) (sym h) ∙ e)) ∙ image_free j n x z k e)
    (λ (ne : k ≢ n). stepped_other j n (bit_at x n) (image j n x z) k ne ∙ image_free j n x z k e)
    (cases_eq k n)

-- a bit of what follows that isn't written has its value before
pub image_same : (j : Joint) (n x z k : ℕ) → k < n → bit_at j.needed k ≡ 1 → bit_at j.written k ≡ 0 → bit_at (image j n x z) k ≡ bit_at x k
unfolding image
image_same j zero x z k h e f = absurd (omega (arith, h))
image_same j (suc n) x z k h e f = ⊎_elim
    (λ (l : k < n). let ne : k ≢ n = omega (arith, l) in stepped_other j n (bit_at x n) (image j n x z) k ne ∙ image_same j n x z k l e f)
    (λ (l : k ≡ n). subst (λ (i : ℕ). bit_at (stepped j n (bit_at x n) (image j n x z)) i ≡ bit_at x i) (sym l)
    (ap (λ y. bit_at y n) (stepped_same j n (bit_at x n) (image j n x z) (ap (bit_at j.needed) (sym l) ∙ e) (ap (bit_at j.written) (sym l) ∙ f))
    ∙ bit_at-with_bit_same (image j n x z) n (bit_at x n) (bit_at-lt x n)))
    (below_or_last n k h)

-- a bit of what follows that is written has its value after
pub image_written : (j : Joint) (n x z k : ℕ) → bit_at j.needed k ≡ 1 → bit_at j.written k ≡ 1 → bit_at (image j n x z) k ≡ bit_at z k
unfolding image
image_written j zero x z k e f = refl
image_written j (suc n) x z k e f = ⊎_elim
    (λ (h : k ≡ n). ap (λ y. bit_at y k) (stepped_written j n (bit_at x n) (image j n x z) (ap (bit_at j.needed) (sym h) ∙ e) (ap (bit_at j.written) (sym h) ∙ f)) ∙ image_written j n x z k e f)
    (λ (ne : k ≢ n). stepped_other j n (bit_at x n) (image j n x z) k ne ∙ image_written j n x z k e f)
    (cases_eq k n)
