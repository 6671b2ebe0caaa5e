-- A single step: what is seen of it, which variables it changes, and what it leaves, which isn't settled yet.
use Rattle.std.specs.Prelude.{ℕ, ◌==◌, Bool, true, false, not, List, [], ◌∷◌, ◌++◌, map, Option, None, Some}
use Rattle.std.specs.List.{filter, flat_map}
use Rattle.occ_meaning.specs.occ_base.Event.{counterpart}
use Rattle.occ_meaning.specs.occ_base.declared.event.Event.{Event}
use Rattle.occ_meaning.specs.occ_syntax.Scopes.{Values, Trace, EventSet, same_event, with_value}

-- Its event, if it is seen; the new values of variables, each with its number; what is left.
pub record Step (A : Type 0) : Type 0 where
  pub event : Option Event
  pub changes : List (ℕ × ℕ)
  pub next : A

abbrev pub step : {A : Type 0} → Option Event → List (ℕ × ℕ) → A → Step A
step event changes next = record { event = event; changes = changes; next = next }

-- the trace that begins with the event of a step, if it is seen
abbrev pub seen : Option Event → Trace → Trace
seen None t = t
seen (Some e) t = e ∷ t

abbrev pub not_seen : Option Event → Bool
not_seen None = true
not_seen (Some e) = false

abbrev pub off : ℕ → Option Event → Bool
off c None = true
off c (Some e) = not (e.chan.0 == c)

abbrev pub outside : EventSet → Option Event → Bool
outside X None = false
outside X (Some e) = not (X e)

abbrev pub same : Event → Option Event → Bool
same e None = false
same e (Some f) = same_event e f

abbrev pub answers : Option Event → Option Event → Bool
answers None f = false
answers (Some e) None = false
answers (Some e) (Some f) = same_event f (counterpart e)

-- the values with the changes made, of which an earlier one of the list counts before a later one
abbrev pub changed : List (ℕ × ℕ) → Values → Values
changed [] s = s
changed (c ∷ cs) s = with_value (changed cs s) c.0 c.1

abbrev pub changes_but : ℕ → List (ℕ × ℕ) → List (ℕ × ℕ)
changes_but x cs = filter (λ c. not (c.0 == x)) cs

-- the step with f of what it leaves
abbrev pub leaving : {A B : Type 0} → (A → B) → Step A → Step B
leaving f k = step k.event k.changes (f k.next)

abbrev pub is_unseen : {A : Type 0} → Step A → Bool
is_unseen k = not_seen k.event

-- the step isn't an event on that channel
abbrev pub is_off : {A : Type 0} → ℕ → Step A → Bool
is_off c k = off c k.event

-- the step is an event, and none of the set
abbrev pub is_outside : {A : Type 0} → EventSet → Step A → Bool
is_outside X k = outside X k.event

-- the step is that event
abbrev pub is_event : {A : Type 0} → Event → Step A → Bool
is_event e k = same e k.event

-- two steps that are an event and its counterpart
abbrev pub meet : {A B : Type 0} → Step A → Step B → Bool
meet k l = answers k.event l.event

-- both of two steps as one, which isn't seen
abbrev pub joint : {A B : Type 0} → Step A → Step B → Step (A × B)
joint k l = step None (k.changes ++ l.changes) (k.next, l.next)

-- the steps of two lists that meet, in the order of the first and then of the second
abbrev pub meetings : {A B : Type 0} → List (Step A) → List (Step B) → List (Step (A × B))
meetings ks ls = flat_map (λ k. map (joint k) (filter (meet k) ls)) ks
