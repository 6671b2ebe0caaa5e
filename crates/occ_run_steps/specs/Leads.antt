-- Where a schedule leads: the numbers of steps, each taken in turn from where the one before it led.
use Rattle.std.specs.Prelude.{ℕ, ◌≡◌, Bool, not, ◌&&◌, Some, List, [], ◌∷◌, slice_get}
use Rattle.std.specs.List.{list_all}
use Rattle.occ_meaning.specs.occ_syntax.Tree.{Tree}
use Rattle.occ_meaning.specs.occ_syntax.Scopes.{Environment, Values, Trace, EventSet}
use Rattle.occ_run_steps.specs.Control.{Control, unbegun, is_done}
use Rattle.occ_run_steps.specs.Settled.{settled}
use Rattle.occ_run_steps.specs.Step.{Step, changed, is_outside, seen}
use Rattle.occ_run_steps.specs.Steps.{steps}

-- where a process stands before its first step
abbrev pub start : Environment → Values → Tree → Control
start Γ s p = settled Γ s (unbegun p)

-- what a step that changes values so leaves, settled
abbrev pub stepped : Environment → Values → Step Control → Control
stepped Γ s k = settled Γ (changed k.changes s) k.next

-- From values and a control tree the numbers lead, with the events that are seen on the way, to others.
pub data Leads (Γ : Environment) : Values → Control → List ℕ → Trace → Values → Control → Type 0 where
  at_rest : {s : Values} {C : Control} → Leads Γ s C [] [] s C
  by_step : {s s' : Values} {C C' : Control} {ns : List ℕ} {t : Trace} (n : ℕ) (k : Step Control) → slice_get (steps Γ s C) n ≡ Some k
      → Leads Γ (changed k.changes s) (stepped Γ s k) ns t s' C' → Leads Γ s C (n ∷ ns) (seen k.event t) s' C'

-- It isn't done, each of its steps is an event, and none of them is in the set.
abbrev pub refuses : Environment → Values → Control → EventSet → Bool
refuses Γ s C X = not (is_done C) && list_all (is_outside X) (steps Γ s C)
