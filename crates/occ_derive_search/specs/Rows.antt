-- Rows of digits, the lowest first, and which number each row has.
use Rattle.std.specs.Prelude.{ℕ, ◌+◌, ◌*◌, ◌<◌, Bool, true, false, List, [], ◌∷◌}
use Rattle.std.specs.Coded.{le_prop}
use Rattle.occ_derive_search.specs.declared.instruction.TheConstants.{DIGITS}

abbrev pub IsDigit : ℕ → Type 0
IsDigit digit = digit < DIGITS

pub IsDigit-prop : (digit : ℕ) → IsProp (IsDigit digit)
IsDigit-prop digit = le_prop

-- how many rows come in front of a row: all that are shorter, and those of its length that have less
abbrev pub rank : List ℕ → ℕ
rank [] = 0
rank (digit ∷ digits) = digit + 1 + DIGITS * rank digits

-- a digit that comes behind a row
abbrev pub carried : Bool → List ℕ
carried true = 0 ∷ []
carried false = []
