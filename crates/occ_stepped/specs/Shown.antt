-- Where a schedule leads, and what is shown there.
use Rattle.std.specs.Prelude.{ℕ, ◌≡◌, ◌++◌, List, [], Ok, Err}
use Rattle.std.specs.List.{All}
use Rattle.occ_place.specs.Steps.{TellsSteps}
use Rattle.occ_run.specs.Configurations.{followed, started}
use Rattle.occ_run.specs.Machines.{configuration}
use Rattle.occ_run.specs.declared.answer.Move.{Move}
use Rattle.occ_run_schedule.specs.declared.schedule.Schedule.{Schedule}
use Rattle.occ_syntax.specs.occ_base.declared.names.Name.{Name}
use Rattle.occ_syntax.specs.declared.scope.Kind.{Kind}
use Rattle.occ_syntax.specs.declared.scope.Program.{Program}
use Rattle.occ_stepped.specs.declared.leading.Led.{Led}
use Rattle.occ_stepped.specs.declared.leading.Led.TheVariants.{There, Missing}

-- all steps of the schedule lead to the machine; or that one, counted from 1, is the first that isn't there
abbrev pub IsLed : Program → Schedule → Led → Type 0
IsLed program schedule (There machine) = followed 1 (started program schedule.state) schedule.steps ≡ Ok (configuration machine)
IsLed program schedule (Missing k) = followed 1 (started program schedule.state) schedule.steps ≡ Err k

-- the machine has these parameters
abbrev pub HasParams : List (Name × Kind) → Led → Type 0
HasParams params (There machine) = machine.point.place.scope.items ≡ params
HasParams params (Missing k) = Unit {0}

-- all variables of the interface are 0, and no step is taken
pub record IsStart (s : Schedule) : Type 0 where
  pub zero : All (λ (v : Name × ℕ). v.1 ≡ 0) s.state
  pub none : s.steps ≡ []

-- a text stands in another one
pub record IsAround (inner text : List ℕ) : Type 0 where
  pub before : List ℕ
  pub after : List ℕ
  pub is : text ≡ before ++ inner ++ after

-- In the text stand rows that tell the steps.
pub record Shows (names : List (List ℕ)) (moves : List Move) (text : List ℕ) : Type 0 where
  pub rows : List ℕ
  pub tells : TellsSteps names moves rows
  pub around : IsAround rows text
