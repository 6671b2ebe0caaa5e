use Rattle.std.specs.Prelude.{ℕ, ◌<◌, ◌≡◌, ◌^◌, ◌⊎◌}
use Rattle.std.specs.Int.{bit_at}
use Rattle.std.specs.Int.Bits.{bit_and}
use Rattle.occ_choice.specs.occ_syntax.Scopes.{Values}
use Rattle.occ_choice.specs.occ_syntax.Meaning.{join}
use Rattle.occ_weave.specs.Weave.{IsJoined}

-- Final states by bits: each variable in scope has some bits of the assignment, its mask.

-- the values of the variables, each by the bits of its mask
abbrev pub values : (ℕ → ℕ) → ℕ → Values
values masks x = λ v. bit_and x (masks v)

-- The masks of the variables have bits in scope alone, and `written` has all or none of the bits of each. Among the bits
-- in scope x1 differs from s within `written` alone, and x2 outside of it.
pub record AreParted (written scope : ℕ) (masks : ℕ → ℕ) (s x1 x2 : ℕ) : Type 0 where
  pub small : (v : ℕ) → masks v < 2 ^ 64
  pub scoped : (v b : ℕ) → bit_at (masks v) b ≡ 1 → bit_at scope b ≡ 1
  pub whole : (v : ℕ) → ((b : ℕ) → bit_at (masks v) b ≡ 1 → bit_at written b ≡ 1) ⊎ ((b : ℕ) → bit_at (masks v) b ≡ 1 → bit_at written b ≡ 0)
  pub first : (b : ℕ) → b < 64 → bit_at scope b ≡ 1 → bit_at written b ≡ 0 → bit_at x1 b ≡ bit_at s b
  pub second : (b : ℕ) → b < 64 → bit_at scope b ≡ 1 → bit_at written b ≡ 1 → bit_at x2 b ≡ bit_at s b

-- what is joined by bits is joined by the values of the variables
pub record JoinsStates (written scope : ℕ) (masks : ℕ → ℕ) (s x1 x2 x : ℕ) : Type 0 where
  pub joins : AreParted written scope masks s x1 x2 → IsJoined written x1 x2 x → (v : ℕ) → values masks x v ≡ join (values masks s) (values masks x1) (values masks x2) v
