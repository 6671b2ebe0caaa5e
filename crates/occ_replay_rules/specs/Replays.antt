-- What the replay of a script answers.
use Rattle.std.specs.Prelude.{ℕ, ◌≡◌, List}
use Rattle.occ_replay_rules.specs.Steps.{Derives, Lack, Step, Stops}
use Rattle.occ_print.specs.occ_syntax.declared.scope.Program.{Program}
use Rattle.occ_print.specs.occ_syntax.Tree.{Tree}
use Rattle.occ_print.specs.occ_syntax.View.{tree}
use Rattle.occ_script_lines.specs.occ_usage.Accepted.{IsAccepted, IsFirst}
use Rattle.occ_script_lines.specs.occ_usage.declared.fault.UsageFault.{UsageFault}

-- a program has the name and the parameters of another one, and this body
pub record IsEnd (from : Program) (end : Tree) (to : Program) : Type 0 where
  pub name : to.name ≡ from.name
  pub params : to.params ≡ from.params
  pub body : tree to.body ≡ end

-- The steps derive the program from the one in front of them, which is accepted.
pub record IsDerivation (from : Program) (steps : List Step) (to : Program) : Type 0 where
  pub accepted : IsAccepted from
  pub end : Tree
  pub derived : Derives from.params (tree from.body) steps end
  pub is_end : IsEnd from end to

-- A step isn't good.
pub record IsCutOff (from : Program) (steps : List Step) (number : ℕ) (lack : Lack) : Type 0 where
  pub accepted : IsAccepted from
  pub stops : Stops from.params (tree from.body) steps number lack

-- All steps are good, and they lead to another program.
pub record IsAstray (from : Program) (steps : List Step) (to : Program) : Type 0 where
  pub accepted : IsAccepted from
  pub end : Tree
  pub derived : Derives from.params (tree from.body) steps end
  pub differs : IsEnd from end to → ⊥

-- The answer: the steps join the two programs; or the first program breaks usage, with that fault; or a step lacks what it
-- needs, steps counted from 1; or the steps end with another program.
pub data Replayed : Type 0 where
  joined : Replayed
  breaks_usage : UsageFault → Replayed
  lacking : ℕ → Lack → Replayed
  wrong_end : Replayed

abbrev pub Replays : Program → List Step → Program → Replayed → Type 0
Replays from steps to joined = IsDerivation from steps to
Replays from steps to (breaks_usage fault) = IsFirst fault from
Replays from steps to (lacking number lack) = IsCutOff from steps number lack
Replays from steps to wrong_end = IsAstray from steps to
