-- A script as the definitions of derivations have it, and what its replay answers.
use Rattle.std.specs.Prelude.{ℕ, ◌≡◌, List, length, map, Option, Result, Ok, Err}
use Rattle.std.specs.Option.{option_map}
use Rattle.occ_script.specs.occ_law.declared.table.LawId.{LawId}
use Rattle.occ_script.specs.occ_parse_part.Shown.{part_of}
use Rattle.occ_replay.specs.declared.change.Stopped.{Stopped}
use Rattle.occ_replay.specs.declared.change.Stopped.TheVariants as stopped
use Rattle.occ_replay.specs.declared.result.Joined.{Joined}
use Rattle.occ_replay.specs.declared.result.Rejected.{Rejected}
use Rattle.occ_replay.specs.declared.result.Rejected.TheVariants as rejected
use Rattle.occ_replay_rules.specs.Replays.{IsEnd, Replays, breaks_usage, joined, lacking, wrong_end}
use Rattle.occ_replay_rules.specs.Steps.{Derives, Lack, Step, Stops, no_law, no_path, not_accepted, not_instance}
use Rattle.occ_script.specs.declared.script.Script.{Script}
use Rattle.occ_script.specs.declared.script.Step.{Step as Read}
use Rattle.occ_syntax.specs.declared.scope.Program.{Program}
use Rattle.occ_syntax.specs.View.{tree}

abbrev pub number_of : LawId → ℕ
number_of law = law.0

-- a step as the definitions have it
abbrev pub step_of : Read → Step
step_of s = record { law = option_map number_of s.law; dir = s.dir; path = s.path; part = part_of s.part }

abbrev pub steps_of : List Read → List Step
steps_of steps = map step_of steps

-- the program to which steps lead
pub record IsDerived (from : Program) (steps : List Step) (end : Program) : Type 0 where
  pub name : end.name ≡ from.name
  pub params : end.params ≡ from.params
  pub derived : Derives from.params (tree from.body) steps (tree end.body)

-- what stops a step, with the step's number
abbrev pub rejects : Stopped → ℕ → Rejected
rejects stopped.NoLaw k = rejected.NoLaw k
rejects stopped.NoPath k = rejected.NoPath k
rejects stopped.NotAccepted k = rejected.NotAccepted k
rejects stopped.NotInstance k = rejected.NotInstance k
rejects stopped.Memory k = rejected.Memory

-- or they stop on the way
abbrev pub IsRejectedSteps : Program → List Step → Rejected → Type 0
IsRejectedSteps from steps (rejected.NoLaw k) = Stops from.params (tree from.body) steps k no_law
IsRejectedSteps from steps (rejected.NoPath k) = Stops from.params (tree from.body) steps k no_path
IsRejectedSteps from steps (rejected.NotAccepted k) = Stops from.params (tree from.body) steps k not_accepted
IsRejectedSteps from steps (rejected.NotInstance k) = Stops from.params (tree from.body) steps k not_instance
IsRejectedSteps from steps (rejected.From fault) = ⊥
IsRejectedSteps from steps rejected.WrongEnd = ⊥
IsRejectedSteps from steps rejected.Memory = Unit {0}

-- one program as a tree is the other
abbrev pub IsEndOf : Program → Program → Type 0
IsEndOf end to = IsEnd end (tree end.body) to

-- one program has the name, the parameters and the body of another
pub record IsSameProgram (old new : Program) : Type 0 where
  pub name : new.name ≡ old.name
  pub params : new.params ≡ old.params
  pub body : tree new.body ≡ tree old.body

-- The two programs of a script and the number of its steps.
pub record IsJoined (script : Script) (found : Joined) : Type 0 where
  pub first : IsSameProgram script.from.program found.from
  pub last : IsEndOf found.to script.to
  pub steps : found.steps ≡ length script.steps
  pub joins : Replays script.from.program (steps_of script.steps) script.to joined

-- What the replay of a script answers. Out of memory says nothing.
abbrev pub IsReplayed : Script → Result Joined Rejected → Type 0
IsReplayed script (Ok found) = IsJoined script found
IsReplayed script (Err (rejected.From fault)) = Replays script.from.program (steps_of script.steps) script.to (breaks_usage fault)
IsReplayed script (Err (rejected.NoLaw k)) = Replays script.from.program (steps_of script.steps) script.to (lacking k no_law)
IsReplayed script (Err (rejected.NoPath k)) = Replays script.from.program (steps_of script.steps) script.to (lacking k no_path)
IsReplayed script (Err (rejected.NotAccepted k)) = Replays script.from.program (steps_of script.steps) script.to (lacking k not_accepted)
IsReplayed script (Err (rejected.NotInstance k)) = Replays script.from.program (steps_of script.steps) script.to (lacking k not_instance)
IsReplayed script (Err rejected.WrongEnd) = Replays script.from.program (steps_of script.steps) script.to wrong_end
IsReplayed script (Err rejected.Memory) = Unit {0}
