-- Derivations, and what the check of proposed steps answers.
use Rattle.std.specs.Prelude.{◌≡◌, List, Option, None, Some}
use Rattle.std.specs.List.{AllByRecursion}
use Rattle.occ_derive_moves.specs.Steps.{Steps}
use Rattle.occ_engine.specs.declared.outcome.Outcome.{Outcome}
use Rattle.occ_engine.specs.Followed.{ended}
use Rattle.occ_engine.specs.Moved.{moves_of}
use Rattle.occ_engine.specs.Outcomes.{IsTabled}
use Rattle.occ_engine.specs.occ_script_write.declared.writing.Done.{Done}
use Rattle.occ_syntax.specs.declared.scope.Program.{Program}
use Rattle.occ_syntax.specs.Tree.{Tree}
use Rattle.occ_syntax.specs.View.{tree}

-- The steps lead from one program to another of the same name and the same parameters, each by a law of the table.
pub record IsDerived (from : Program) (outcome : Outcome) : Type 0 where
  pub name : outcome.to.name ≡ from.name
  pub params : outcome.to.params ≡ from.params
  pub steps : Steps from.params (tree from.body) (moves_of outcome.steps) (tree outcome.to.body)
  pub tabled : AllByRecursion IsTabled outcome.steps

-- The steps lead to a program; or they lead nowhere.
abbrev pub AreFollowed : Program → List Done → Option Program → Type 0
AreFollowed from steps (Some to) = IsDerived from (ended steps to)
AreFollowed from steps None = (q : Tree) → Steps from.params (tree from.body) (moves_of steps) q → ⊥
