-- What a row of digits gives.
use Rattle.std.specs.Prelude.{ℕ, ◌≡◌, List, Option, None, Some}
use Rattle.occ_derive_search.specs.Derivations.{IsDerived}
use Rattle.occ_derive_search.specs.Codes.{Spells}
use Rattle.occ_derive_moves.specs.Steps.{Steps}
use Rattle.occ_engine.specs.declared.outcome.Outcome.{Outcome}
use Rattle.occ_derive_moves.specs.occ_replay_rules.Moves.{Move}
use Rattle.occ_syntax.specs.declared.scope.Program.{Program}
use Rattle.occ_syntax.specs.Tree.{Tree}
use Rattle.occ_syntax.specs.View.{tree}

-- a derivation from a program to a body
pub record IsFound (from : Program) (q : Tree) (outcome : Outcome) : Type 0 where
  pub derived : IsDerived from outcome
  pub to : tree outcome.to.body ≡ q

-- A row of digits gives a derivation; or it doesn't spell one.
abbrev pub IsAttempt : Program → Tree → List ℕ → Option Outcome → Type 0
IsAttempt from q code (Some outcome) = IsFound from q outcome
IsAttempt from q code None = (moves : List Move) → Spells code moves → Steps from.params (tree from.body) moves q → ⊥
