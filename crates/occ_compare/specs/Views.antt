-- What a process can do, as it is seen from outside.
use Rattle.std.specs.Prelude.{ℕ, ◌≡◌, ◌⊎◌, ◌↔◌, Bool, true, false, not, List, [], ◌∷◌}
use Rattle.occ_syntax.specs.occ_base.declared.event.Event.{Event}
use Rattle.occ_syntax.specs.occ_base.declared.names.Name.{Name}
use Rattle.occ_syntax.specs.Scopes.{EventSet, Trace, among}
use Rattle.occ_behaviour.specs.declared.behaviour.Last.{Last}
use Rattle.occ_behaviour.specs.declared.behaviour.Last.TheVariants.{Refuses, Ends}
use Rattle.occ_node.specs.occ_accept.Accept.{in_set}

-- a value for each variable of an interface, in order
abbrev pub Values : Type 0
Values = List (Name × ℕ)

-- The failures and the ends of a process: after the trace it can be stable, not ended, and refuse all of the set; after the
-- trace it can have ended in the state.
pub record Behaviours : Type 1 where
  pub fails : Trace → EventSet → Type 0
  pub ends : Trace → Values → Type 0

-- what it can do after the event
abbrev pub after : Behaviours → Event → Behaviours
after b e = record { fails = λ t X. b.fails (e ∷ t) X; ends = λ t s. b.ends (e ∷ t) s }

abbrev pub HasTrace : Behaviours → Trace → Type 0
HasTrace b t = b.fails t (λ e. false) ⊎ ((s : Values) × b.ends t s)

-- some trace begins with the event
abbrev pub Offers : Behaviours → Event → Type 0
Offers b e = (t : Trace) × HasTrace b (e ∷ t)

-- everything outside the set can be refused at once
abbrev pub Accepts : Behaviours → List Event → Type 0
Accepts b set = b.fails [] (λ e. not (in_set set e))

-- after the trace it can stand so
abbrev pub Stands : Behaviours → Trace → Last → Type 0
Stands b t (Refuses events) = b.fails t (among events)
Stands b t (Ends s) = b.ends t s

-- All failures and ends of b are a's.
pub record IsWithin (b a : Behaviours) : Type 0 where
  pub fails : (t : Trace) (X : EventSet) → b.fails t X → a.fails t X
  pub ends : (t : Trace) (s : Values) → b.ends t s → a.ends t s

-- the two have the same failures and ends
pub record AreAlike (a b : Behaviours) : Type 0 where
  pub fails : (t : Trace) (X : EventSet) → a.fails t X ↔ b.fails t X
  pub ends : (t : Trace) (s : Values) → a.ends t s ↔ b.ends t s
