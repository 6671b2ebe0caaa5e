-- A step of a meaning, and that a set of steps is all that it can do: the two sides of what one step says of a behaviour.
use Rattle.occ_meaning.specs.occ_base.declared.event.Event.{Event}
use Rattle.occ_run_steps.specs.Step.{Step, changed, outside, seen}
use Rattle.occ_meaning.specs.occ_syntax.Meaning.{Meaning, Outcome, ended, refusing}
use Rattle.occ_meaning.specs.occ_syntax.Scopes.{Environment, EventSet, Trace, Values}
use Rattle.std.proofs.Common.{Bool, List, Option, Some, [], false, true, ℕ, ◌≡◌}

-- what the step leaves does from the changed values, the whole does behind the step's event
pub record Sound (Γ : Environment) (s : Values) (m : Meaning) (event : Option Event) (changes : List (ℕ × ℕ)) (next : Meaning) : Type 0 where
  pub behind : (t : Trace) (o : Outcome) → next.does Γ (changed changes s) t o → m.does Γ s (seen event t) o

-- A behaviour comes of the steps of a set: it is done without any; or it isn't done, and each step is an event outside
-- the refused set; or a step is taken, and the remainder is done by what that leaves.
pub data Unfolded (A : Type 0) (f : A → Meaning) (M : Step A → Type 0) (d : Bool) (Γ : Environment) (s : Values) : Trace → Outcome → Type 0 where
  ends : d ≡ true → ((k : Step A) → M k → ⊥) → Unfolded A f M d Γ s [] (ended s)
  waits : {X : EventSet} → d ≡ false → ((k : Step A) → M k → outside X k.event ≡ true) → Unfolded A f M d Γ s [] (refusing X)
  moves : {t : Trace} {o : Outcome} (k : Step A) (a : Trace) → M k → t ≡ seen k.event a → (f k.next).does Γ (changed k.changes s) a o → Unfolded A f M d Γ s t o

-- each behaviour comes of the steps of the set
pub record Unfolds (A : Type 0) (f : A → Meaning) (M : Step A → Type 0) (d : Bool) (Γ : Environment) (s : Values) (m : Meaning) : Type 0 where
  pub comes : (t : Trace) (o : Outcome) → m.does Γ s t o → Unfolded A f M d Γ s t o

-- Without a step it is over, or it refuses each set that has no event of a step.
pub record AtRest (A : Type 0) (M : Step A → Type 0) (d : Bool) (Γ : Environment) (s : Values) (m : Meaning) : Type 0 where
  pub over : d ≡ true → m.does Γ s [] (ended s)
  pub refused : d ≡ false → (X : EventSet) → ((k : Step A) → M k → outside X k.event ≡ true) → m.does Γ s [] (refusing X)

-- the set is that of the steps' events
pub record Offers (A : Type 0) (M : Step A → Type 0) (Z : EventSet) : Type 0 where
  pub offered : (k : Step A) (e : Event) → M k → k.event ≡ Some e → Z e ≡ true
  pub by_step : (e : Event) → Z e ≡ true → (k : Step A) × M k × (k.event ≡ Some e)
