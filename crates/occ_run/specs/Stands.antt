-- How a configuration stands.
use Rattle.std.specs.Prelude.{ℕ, ◌≡◌, ◌^◌, Bool, true, false, not, List, [], ◌∷◌, ◌++◌, map, length, Option, None, Some}
use Rattle.std.specs.List.{filter, flat_map, list_any, range_with_len}
use Rattle.occ_syntax.specs.occ_base.declared.event.Dir.{Dir}
use Rattle.occ_syntax.specs.occ_base.declared.event.Dir.TheVariants.{Input, Output}
use Rattle.occ_syntax.specs.occ_base.declared.event.Event.{Event}
use Rattle.occ_syntax.specs.occ_base.declared.names.Name.{Name}
use Rattle.occ_syntax.specs.occ_base.declared.width.Width.{Width}
use Rattle.occ_syntax.specs.occ_base.Width.{bits_of}
use Rattle.occ_syntax.specs.declared.scope.Kind.{Kind}
use Rattle.occ_syntax.specs.declared.scope.Kind.TheVariants.{Var, Chan}
use Rattle.occ_syntax.specs.Scopes.{Values}
use Rattle.occ_behaviour.specs.declared.behaviour.Last.{Last}
use Rattle.occ_behaviour.specs.declared.behaviour.Last.TheVariants.{Refuses, Ends}
use Rattle.occ_run_steps.specs.Control.{is_done}
use Rattle.occ_run_steps.specs.Step.{Step, is_event, is_unseen}
use Rattle.occ_run.specs.declared.answer.Stand.{Stand}
use Rattle.occ_run.specs.declared.answer.Stand.TheVariants.{Ended, Stuck, Stable, Moving}
use Rattle.occ_run.specs.Configurations.{Configuration, steps_of}

-- the variables of an interface, in order, with their values
abbrev pub state_of : List (Name × Kind) → Values → List (Name × ℕ)
state_of [] s = []
state_of ((name, Chan w mark) ∷ params) s = state_of params s
state_of ((name, Var w) ∷ params) s = (name, s name.0) ∷ state_of params s

-- the events at one end of a channel, of the values below a number, in increasing order
abbrev pub events_below : Name × Dir → ℕ → List Event
events_below end n = map (λ v. record { chan = end.0; dir = end.1; value = v }) (range_with_len 0 n)

abbrev pub end_events : Name → Width → Dir → List Event
end_events c w d = events_below (c, d) (2 ^ bits_of w)

abbrev pub kind_events : Name → Kind → List Event
kind_events x (Var w) = []
kind_events c (Chan w None) = end_events c w Input ++ end_events c w Output
kind_events c (Chan w (Some d)) = end_events c w d

-- the events of an interface, in the order of printing
abbrev pub interface : List (Name × Kind) → List Event
interface params = flat_map (λ (entry : Name × Kind). kind_events entry.0 entry.1) params

-- the events of a list that no step has
abbrev pub without : {A : Type 0} → List (Step A) → List Event → List Event
without ks es = filter (λ e. not (list_any (is_event e) ks)) es

-- the events of the interface that no step has
abbrev pub refused_by : Configuration → List Event
refused_by c = without (steps_of c) (interface c.params)

abbrev pub has_unseen : Configuration → Bool
has_unseen c = list_any is_unseen (steps_of c)

-- There are so many steps, one at least.
abbrev pub HasSteps : Configuration → ℕ → Type 0
HasSteps c n = (length (steps_of c) ≡ n) × ((n ≡ 0) → ⊥)

-- The configuration stands so: nothing is left to be done; or something is, and there is no step; or there are steps, and
-- none is unseen; or there are steps, and one is.
abbrev pub IsStand : Configuration → Stand → Type 0
IsStand c (Ended state) = (is_done c.control ≡ true) × (state ≡ state_of c.params c.values)
IsStand c (Stuck refused) = (is_done c.control ≡ false) × (steps_of c ≡ []) × (refused ≡ refused_by c)
IsStand c (Stable n refused) = HasSteps c n × (has_unseen c ≡ false) × (refused ≡ refused_by c)
IsStand c (Moving n) = HasSteps c n × (has_unseen c ≡ true)

-- the last line of the behaviour that a stand shows; nothing while unseen steps are left
abbrev pub shown : Stand → Option Last
shown (Ended state) = Some (Ends state)
shown (Stuck refused) = Some (Refuses refused)
shown (Stable n refused) = Some (Refuses refused)
shown (Moving n) = None
