-- How a behaviour is reached by a schedule.
use Rattle.std.specs.Prelude.{ℕ, ◌≡◌, true, List}
use Rattle.occ_meaning.specs.occ_syntax.Meaning.{Outcome, ended, refusing}
use Rattle.occ_meaning.specs.occ_syntax.Scopes.{Environment, Trace, Values}
use Rattle.occ_run_steps.specs.Control.{Control, is_done}
use Rattle.occ_run_steps.specs.Leads.{Leads, refuses}

-- The control tree has come to that outcome: it is done, in those values; or it isn't done, and each of its steps is an
-- event that isn't refused.
abbrev pub Rests : Environment → Values → Control → Outcome → Type 0
Rests Γ s C (ended r) = (is_done C ≡ true) × (r ≡ s)
Rests Γ s C (refusing X) = refuses Γ s C X ≡ true

-- some schedule leads with that trace to a control tree that has come to that outcome
pub record Reached (Γ : Environment) (s : Values) (C : Control) (t : Trace) (o : Outcome) : Type 0 where
  pub schedule : List ℕ
  pub values : Values
  pub control : Control
  pub leads : Leads Γ s C schedule t values control
  pub rests : Rests Γ values control o
