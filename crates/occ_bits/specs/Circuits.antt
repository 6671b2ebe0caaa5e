-- What the steps and the loops of the circuits keep.
use Rattle.std.specs.Prelude.{ℕ, ◌+◌, ◌*◌, ◌<◌, ◌≡◌, ◌==◌, ◌^◌, ◌&&◌, not, Bool, false, nat_lt, List, [], ◌∷◌, length, drop, slice_index_or}
use Rattle.std.specs.List.{All}
use Rattle.occ_dd.specs.Store.{has, IsKnown, Keeps, row_of}
use Rattle.occ_dd.specs.declared.set.SetId.{SetId}
use Rattle.occ_dd.specs.declared.store.Store.{Store}
use Rattle.occ_syntax.specs.declared.expr.Op.{Op}
use Rattle.occ_syntax.specs.declared.expr.Op.TheVariants.{Plus, Minus, And, Or, BitAnd, BitOr, BitXor, Equal, Differ, Less, Greater, AtMost, AtLeast}
use Rattle.occ_bits.specs.Words.{digit, number_at}

-- how many digits an operator makes of two words of so many
abbrev pub digits_of : Op → ℕ → ℕ
digits_of Plus n = n
digits_of Minus n = n
digits_of And n = n
digits_of Or n = n
digits_of BitAnd n = n
digits_of BitOr n = n
digits_of BitXor n = n
digits_of Equal n = 1
digits_of Differ n = 1
digits_of Less n = 1
digits_of Greater n = 1
digits_of AtMost n = 1
digits_of AtLeast n = 1

-- the sum of three digits, with its carry
pub record IsAdded (old new : Store) (left right carry sum next : SetId) : Type 0 where
  pub sum_known : IsKnown new sum
  pub next_known : IsKnown new next
  pub adds : (x : ℕ) → digit new sum x + 2 * digit new next x ≡ digit old left x + digit old right x + digit old carry x

-- the difference of two digits and a borrow, with the next borrow
pub record IsTaken (old new : Store) (left right borrow difference next : SetId) : Type 0 where
  pub difference_known : IsKnown new difference
  pub next_known : IsKnown new next
  pub takes : (x : ℕ) → digit new difference x + digit old right x + digit old borrow x ≡ digit old left x + 2 * digit new next x

-- the first k sets give the digits of which a test says whether they are 1
pub record HasBits (s : Store) (k : ℕ) (sets : List SetId) (test : ℕ → ℕ → Bool) : Type 0 where
  pub digits : length sets ≡ k
  pub known : All (IsKnown s) sets
  pub each : (i x : ℕ) (d : SetId) → i < k → has s (slice_index_or sets i d) x ≡ test i x

-- what stands past the end of a list of sets
abbrev pub no_set : SetId
no_set = record { 0 = 0 }

-- a row of a table of four at the digits of two words
abbrev pub row_at : Store → List Bool → List SetId → List SetId → ℕ → ℕ → Bool
row_at s rows left right i x = slice_index_or rows (row_of s (slice_index_or left i no_set ∷ slice_index_or right i no_set ∷ []) x) false

-- the sum of the first k digits of two words, with the carry
pub record IsSumSoFar (first now : Store) (left right : List SetId) (k : ℕ) (sum : List SetId) (carry : SetId) : Type 0 where
  pub keeps : Keeps first now
  pub digits : length sum ≡ k
  pub known : All (IsKnown now) sum
  pub carry_known : IsKnown now carry
  pub adds : (x : ℕ) → number_at now sum x + 2 ^ k * (digit now carry x + number_at first (drop k left) x + number_at first (drop k right) x) ≡ number_at first left x + number_at first right x

-- the difference of the first k digits of two words, with the borrow
pub record IsDifferenceSoFar (first now : Store) (left right : List SetId) (k : ℕ) (difference : List SetId) (borrow : SetId) : Type 0 where
  pub keeps : Keeps first now
  pub digits : length difference ≡ k
  pub known : All (IsKnown now) difference
  pub borrow_known : IsKnown now borrow
  pub takes : (x : ℕ) → number_at now difference x + number_at first right x + 2 ^ k * number_at first (drop k left) x ≡ number_at first left x + 2 ^ k * (digit now borrow x + number_at first (drop k right) x)

-- where the first k digits of two words differ
pub record DifferSoFar (first now : Store) (left right : List SetId) (k : ℕ) (apart : SetId) : Type 0 where
  pub keeps : Keeps first now
  pub known : IsKnown now apart
  pub tells : (x : ℕ) → (number_at first left x == number_at first right x) ≡ (not (has now apart x) && number_at first (drop k left) x == number_at first (drop k right) x)

-- the difference of two words modulo two to their length, and the set of the assignments in which the first is less
pub record IsDifference (old new : Store) (left right difference : List SetId) (less : SetId) : Type 0 where
  pub digits : length difference ≡ length left
  pub known : All (IsKnown new) difference
  pub number : (x : ℕ) → number_at new difference x + number_at old right x ≡ number_at old left x + 2 ^ length left * digit new less x
  pub less_known : IsKnown new less
  pub members : (x : ℕ) → has new less x ≡ nat_lt (number_at old left x) (number_at old right x)
