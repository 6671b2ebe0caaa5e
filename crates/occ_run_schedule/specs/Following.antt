-- Where a schedule leads a program, and what is shown there.
use Rattle.std.specs.Prelude.{ℕ, ◌≡◌, ◌<◌, List, length, Ok, Err}
use Rattle.std.specs.List.{All}
use Rattle.occ_syntax.specs.occ_base.declared.names.Name.{Name}
use Rattle.occ_run.specs.occ_behaviour.Members.{AreNamed}
use Rattle.occ_run.specs.declared.answer.Stand.{Stand}
use Rattle.occ_run.specs.declared.answer.Stand.TheVariants.{Ended, Stuck, Stable, Moving}
use Rattle.occ_run.specs.Configurations.{Configuration, followed, started}
use Rattle.occ_run.specs.Laws.{Belongs}
use Rattle.occ_run.specs.Stands.{IsStand, shown}
use Rattle.occ_run_schedule.specs.declared.schedule.Schedule.{Schedule}
use Rattle.occ_syntax.specs.declared.scope.Kind.{Kind}
use Rattle.occ_syntax.specs.declared.scope.Program.{Program}
use Rattle.occ_syntax.specs.Same.{HasTrace}
use Rattle.occ_syntax.specs.Scopes.{environment, values}
use Rattle.occ_syntax.specs.View.{tree}
use Rattle.occ_run_schedule.specs.declared.following.Followed.{Followed}
use Rattle.occ_run_schedule.specs.declared.following.Followed.TheVariants.{Stood, NoStep}
use Rattle.occ_run_schedule.specs.declared.following.Shown.{Shown}

-- The numbers of the schedule lead to a configuration, and what is shown is its trace and how it stands. The trace is one of the
-- program from that state, and where the program has ended, is stuck or is stable, what is shown is a behaviour of it.
pub record IsShown (program : Program) (schedule : Schedule) (s : Shown) : Type 0 where
  pub there : Configuration
  pub leads : followed 1 (started program schedule.state) schedule.steps ≡ Ok there
  pub state : s.state ≡ schedule.state
  pub trace : s.trace ≡ there.trace
  pub stands : IsStand there s.stand
  pub is_trace : HasTrace (environment program.params) (tree program.body) (values s.state) s.trace
  pub belongs : Belongs program s.state s.trace (shown s.stand)

-- Where the schedule leads, or the first of its steps that isn't there, counted from 1.
abbrev pub IsFollowed : Program → Schedule → Followed → Type 0
IsFollowed program schedule (Stood s) = IsShown program schedule s
IsFollowed program schedule (NoStep k) = followed 1 (started program schedule.state) schedule.steps ≡ Err k

abbrev pub RefusedAreNamed : List (List ℕ) → Stand → Type 0
RefusedAreNamed names (Ended state) = Unit {0}
RefusedAreNamed names (Stuck refused) = AreNamed names refused
RefusedAreNamed names (Stable n refused) = AreNamed names refused
RefusedAreNamed names (Moving n) = Unit {0}

-- the channels of what is shown have texts
pub record ShownIsNamed (names : List (List ℕ)) (s : Shown) : Type 0 where
  pub trace : AreNamed names s.trace
  pub refused : RefusedAreNamed names s.stand

abbrev pub FollowedIsNamed : List (List ℕ) → Followed → Type 0
FollowedIsNamed names (Stood s) = ShownIsNamed names s
FollowedIsNamed names (NoStep k) = Unit {0}

-- the names of a program's parameters have texts
abbrev pub ParametersAreNamed : List (List ℕ) → Program → Type 0
ParametersAreNamed names program = All (λ (entry : Name × Kind). entry.0.0 < length names) program.params
