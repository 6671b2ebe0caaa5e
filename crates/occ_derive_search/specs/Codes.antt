-- Codes: rows of digits, and the steps that they spell.
use Rattle.std.specs.Prelude.{ℕ, ◌≡◌, ◌<◌, List, [], ◌∷◌, Option, Some}
use Rattle.std.specs.List.{AllByRecursion}
use Rattle.std.specs.Option.{option_and_then}
use Rattle.occ_derive_search.specs.declared.instruction.TheConstants.{DIGITS}
use Rattle.occ_derive_search.specs.Digits.{told}
use Rattle.occ_derive_search.specs.Piles.{Held, does, nothing}
use Rattle.occ_derive_moves.specs.occ_replay_rules.Moves.{Move}

-- what a digit makes of what the machine holds, where it is one and can be followed
abbrev pub follows : ℕ → Held → Option Held
follows digit held = option_and_then (λ instruction. does instruction held) (told digit)

-- what a row of digits makes of it, one after the other
abbrev pub runs : List ℕ → Held → Option Held
runs [] held = Some held
runs (digit ∷ code) held = option_and_then (runs code) (follows digit held)

-- A row of digits spells steps: from nothing it leads to them.
pub record Spells (code : List ℕ) (moves : List Move) : Type 0 where
  pub last : Held
  pub leads : runs code nothing ≡ Some last
  pub built : last.moves ≡ moves

-- Some row of digits spells the steps.
pub record HasCode (moves : List Move) : Type 0 where
  pub code : List ℕ
  pub digits : AllByRecursion (λ digit. digit < DIGITS) code
  pub spells : Spells code moves
