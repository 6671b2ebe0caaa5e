-- What where a schedule leads has to do with the definitions of steps, and with the program.
use Rattle.std.specs.Prelude.{ℕ, ◌≡◌, ◌++◌, List, Option, None, Some}
use Rattle.occ_syntax.specs.occ_base.declared.event.Event.{Event}
use Rattle.occ_syntax.specs.occ_base.declared.names.Name.{Name}
use Rattle.occ_syntax.specs.declared.scope.Program.{Program}
use Rattle.occ_syntax.specs.Scopes.{Trace}
use Rattle.occ_syntax.specs.View.{tree}
use Rattle.occ_behaviour.specs.declared.behaviour.Last.{Last}
use Rattle.occ_behaviour.specs.Members.{IsMember}
use Rattle.occ_run_steps.specs.Leads.{Leads}
use Rattle.occ_run.specs.Configurations.{Configuration, scope_of}

-- the numbers lead from one configuration to another, with the events that it has more
pub record IsLed (c d : Configuration) (ns : List ℕ) : Type 0 where
  pub events : Trace
  pub trace : d.trace ≡ c.trace ++ events
  pub params : d.params ≡ c.params
  pub leads : Leads (scope_of c) c.values c.control ns events d.values d.control

-- a behaviour with that last line, if there is one, is the program's
abbrev pub Belongs : Program → List (Name × ℕ) → List Event → Option Last → Type 0
Belongs program state trace None = Unit {0}
Belongs program state trace (Some last) = IsMember program.params (tree program.body) (record { state = state; trace = trace; last = last })
