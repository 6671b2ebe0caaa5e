-- How many rows of digits there are.
use Rattle.std.proofs.Common.{ℕ, zero, suc, ◌+◌, ◌*◌, ◌^◌, ◌<◌, ◌≤◌, List, [], ◌∷◌, length, arith}
use Rattle.std.specs.List.{AllByRecursion}
use Rattle.occ_derive_search.specs.declared.instruction.TheConstants.{DIGITS}
use Rattle.occ_derive_search.specs.Rows.{IsDigit, rank}

-- how many rows have no more digits than that, but for the one without digits
pub within : ℕ → ℕ
within zero = 0
within (suc n) = DIGITS + DIGITS * within n

-- the number of a row is among these
rank_within : (n : ℕ) (ds : List ℕ) → AllByRecursion IsDigit ds → length ds ≤ n → rank ds ≤ within n
unfolding within
rank_within n [] h l = omega arith
rank_within zero (d ∷ ds) h l = absurd (omega (arith, l))
rank_within (suc n) (d ∷ ds) h l = one_more d (rank ds) (within n) h.0 (rank_within n ds h.1 (omega (arith, l)))
  where
    one_more : (d r m : ℕ) → d < DIGITS → r ≤ m → d + 1 + DIGITS * r ≤ DIGITS + DIGITS * m
    one_more d r m low few = omega arith

-- how many rows have a length that a number of 64 bits tells
pub all_rows : ℕ
all_rows = within (2 ^ 64)

-- a row of a list is one of them
pub rank_below : (ds : List ℕ) → AllByRecursion IsDigit ds → length ds < 2 ^ 64 → rank ds ≤ all_rows
unfolding all_rows
rank_below ds h l = rank_within (2 ^ 64) ds h (omega arith)
