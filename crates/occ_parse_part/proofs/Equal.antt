-- Numbers that are equal.
use Rattle.std.proofs.Common.{◌≡◌, ◌==◌, ℕ, true, refl}
use Rattle.std.proofs.lemmas.Bool.{eq-eqb}

-- a number is itself
pub eqb-refl : (n : ℕ) → (n == n) ≡ true
eqb-refl n = eq-eqb n n refl
