-- Numbers whose digits are sets.
use Rattle.std.proofs.Common.{◌≡◌, ℕ, zero, suc, ◌+◌, ◌*◌, ◌/◌, ◌%◌, ◌^◌, ◌<◌, Bool, true, false, if◌then◌else◌, List, [], ◌∷◌, ◌++◌, length, get_or, refl, sym, ap, ◌∙◌, subst, arith}
use Rattle.std.specs.Int.{bit_at}
use Rattle.std.specs.List.{All}
use Rattle.std.proofs.Math.Nat.{pow-succ'}
use Rattle.std.proofs.lemmas.List.Elements.{All-head, All-tail}
use Rattle.std.proofs.lemmas.Nat.Bits.{bit_at_lowest, bit_at-suc, same_from_bits_below}
use Rattle.occ_dd.specs.Store.{has, IsKnown, Keeps}
use Rattle.occ_dd.specs.declared.set.SetId.{SetId}
use Rattle.occ_dd.specs.declared.store.Store.{Store}
use Rattle.occ_dd.proofs.Callers.{all_known-keeps}
use Rattle.occ_bits.specs.Words.{digit, number_at, IsWord}
use Rattle.occ_bits.specs.Circuits.{HasBits}

pub small : (t : Bool) → (if t then 1 else 0) < 2
small true = omega arith
small false = omega arith

pub digit_small : (s : Store) (a : SetId) (x : ℕ) → digit s a x < 2
digit_small s a x = small (has s a x)

pub double : (n : ℕ) → 2 ^ suc n ≡ 2 * 2 ^ n
double n = pow-succ' 2 n

pub number_below : (s : Store) (sets : List SetId) (x : ℕ) → number_at s sets x < 2 ^ length sets
number_below s [] x = omega arith
number_below s (a ∷ sets) x = below (digit s a x) (number_at s sets x) (2 ^ length sets) (2 ^ suc (length sets)) (digit_small s a x) (number_below s sets x) (double (length sets))
  where
    below : (d n p q : ℕ) → d < 2 → n < p → q ≡ 2 * p → d + 2 * n < q
    below d n p q h k e = omega arith

pub number-push : (s : Store) (sets : List SetId) (a : SetId) (x : ℕ) → number_at s (sets ++ a ∷ []) x ≡ number_at s sets x + 2 ^ length sets * digit s a x
number-push s [] a x = omega arith
number-push s (b ∷ sets) a x = step (digit s b x) (number_at s (sets ++ a ∷ []) x) (number_at s sets x) (2 ^ length sets) (2 ^ suc (length sets)) (digit s a x) (number-push s sets a x) (double (length sets))
  where
    step : (b m n p q d : ℕ) → m ≡ n + p * d → q ≡ 2 * p → b + 2 * m ≡ b + 2 * n + q * d
    step b m n p q d h e = ap (λ k. b + 2 * k) h ∙ (omega arith) ∙ ap (λ k. b + 2 * n + k * d) (sym e)

pub number-keeps : (s t : Store) → Keeps s t → (sets : List SetId) (x : ℕ) → All (IsKnown s) sets → number_at t sets x ≡ number_at s sets x
number-keeps s t k [] x known = refl
number-keeps s t k (a ∷ sets) x known =
    ap (λ (h : Bool). (if h then 1 else 0) + 2 * number_at t sets x) (k.same a x (All-head (IsKnown s) a sets known))
    ∙ ap (λ n. digit s a x + 2 * n) (number-keeps s t k sets x (All-tail (IsKnown s) a sets known))

pub digit-keeps : (s t : Store) → Keeps s t → (a : SetId) (x : ℕ) → IsKnown s a → digit t a x ≡ digit s a x
digit-keeps s t k a x known = ap (λ (h : Bool). if h then 1 else 0) (k.same a x known)

-- a digit of the number
pub number_bit : (s : Store) (sets : List SetId) (x i : ℕ) (d : SetId) → i < length sets → bit_at (number_at s sets x) i ≡ digit s (get_or sets i d) x
number_bit s [] x i d h = absurd (omega arith)
number_bit s (a ∷ sets) x zero d h = bit_at_lowest (digit s a x + 2 * number_at s sets x) ∙ lowest (digit s a x) (number_at s sets x) (digit_small s a x)
  where
    lowest : (d n : ℕ) → d < 2 → (d + 2 * n) % 2 ≡ d
    lowest d n h = omega arith
number_bit s (a ∷ sets) x (suc i) d h =
    bit_at-suc (digit s a x + 2 * number_at s sets x) i ∙ ap (λ n. bit_at n i) (rest (digit s a x) (number_at s sets x) (digit_small s a x)) ∙ number_bit s sets x i d (omega (arith, h))
  where
    rest : (d n : ℕ) → d < 2 → (d + 2 * n) / 2 ≡ n
    rest d n h = omega arith

-- sets that give the digits of a value make it
pub word_from_bits : (s : Store) (n : ℕ) (sets : List SetId) (test : ℕ → ℕ → Bool) (value : ℕ → ℕ) → HasBits s n sets test → ((x : ℕ) → value x < 2 ^ n) → ((i x : ℕ) → i < n → (if test i x then 1 else 0) ≡ bit_at (value x) i) → IsWord s n sets value
word_from_bits s n sets test value bits below each = record {
  digits = bits.digits;
  known = bits.known;
  number = λ x. same_from_bits_below n (number_at s sets x) (value x) (subst (λ m. number_at s sets x < 2 ^ m) bits.digits (number_below s sets x)) (below x) (λ i h. number_bit s sets x i none (subst (λ m. i < m) (sym bits.digits) h) ∙ ap (λ (t : Bool). if t then 1 else 0) (bits.each i x none h) ∙ each i x h);
}
  where
    none : SetId
    none = record { 0 = 0 }

pub word-keeps : (s t : Store) → Keeps s t → (n : ℕ) (sets : List SetId) (value : ℕ → ℕ) → IsWord s n sets value → IsWord t n sets value
word-keeps s t k n sets value is = record {
  digits = is.digits;
  known = all_known-keeps s t k sets is.known;
  number = λ x. number-keeps s t k sets x is.known ∙ is.number x;
}
