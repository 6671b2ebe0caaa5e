-- Numbers of a few binary digits, each digit a set of assignments.
use Rattle.std.specs.Prelude.{ℕ, ◌+◌, ◌*◌, ◌≡◌, List, [], ◌∷◌, length, if◌then◌else◌}
use Rattle.std.specs.List.{All}
use Rattle.occ_dd.specs.occ_base.declared.names.Name.{Name}
use Rattle.occ_dd.specs.occ_base.declared.width.Width.{Width}
use Rattle.occ_dd.specs.Store.{has, IsKnown}
use Rattle.occ_dd.specs.declared.set.SetId.{SetId}
use Rattle.occ_dd.specs.declared.store.Store.{Store}
use Rattle.occ_syntax.specs.Eval.{bits_of_exp, eval}
use Rattle.occ_syntax.specs.Tree.{Exp}
use Rattle.occ_bits.specs.Layout.{environment_in, state_of}

-- the digit that a set gives to an assignment: 1 for its members
abbrev pub digit : Store → SetId → ℕ → ℕ
digit s a x = if has s a x then 1 else 0

-- the number whose binary digits some sets give to an assignment, the lowest first
abbrev pub number_at : Store → List SetId → ℕ → ℕ
number_at s [] x = 0
number_at s (a ∷ sets) x = digit s a x + 2 * number_at s sets x

-- the sets are the digits, so many, of a number that depends on the assignment
pub record IsWord (s : Store) (count : ℕ) (sets : List SetId) (value : ℕ → ℕ) : Type 0 where
  pub digits : length sets ≡ count
  pub known : All (IsKnown s) sets
  pub number : (x : ℕ) → number_at s sets x ≡ value x

-- the value of an expression in the state that an assignment stands for
abbrev pub value_at : List (Name × Width × ℕ) → Exp → ℕ → ℕ
value_at entries e x = eval (environment_in entries) e (state_of entries x)

-- the sets are the digits of the value of an expression
abbrev pub IsValue : Store → List (Name × Width × ℕ) → Exp → List SetId → Type 0
IsValue s entries e sets = IsWord s (bits_of_exp (environment_in entries) e) sets (value_at entries e)
