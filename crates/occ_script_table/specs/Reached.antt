-- What is so with each table that begins with the names that reading has reached.
use Rattle.std.specs.Prelude.{ℕ, List}
use Rattle.occ_script_back.specs.occ_lex.Symbols.{Extends}

-- From one table a longer one is reached, and with each that begins with that one it is so.
pub record IsSoFrom (old : List (List ℕ)) (claim : List (List ℕ) → Type 0) : Type 0 where
  pub reached : List (List ℕ)
  pub grows : Extends old reached
  pub holds : (table : List (List ℕ)) → Extends reached table → claim table
