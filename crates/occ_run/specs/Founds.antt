-- All steps of a control with their effects, as a list that no code makes, and what stands at a number of it.
use Rattle.std.specs.Prelude.{ℕ, ◌+◌, ◌≡◌, ◌&&◌, Bool, None, List, [], ◌∷◌, ◌++◌, map, Option, Some, slice_get, length}
use Rattle.std.specs.List.{filter, range_with_len}
use Rattle.occ_syntax.specs.occ_base.declared.event.Dir.TheVariants.{Input}
use Rattle.occ_syntax.specs.occ_base.declared.event.Event.{Event}
use Rattle.occ_syntax.specs.occ_base.declared.names.Name.{Name}
use Rattle.occ_syntax.specs.occ_base.declared.width.Width.{Width}
use Rattle.occ_syntax.specs.Scopes.{Environment, Values, with_name, with_value}
use Rattle.occ_syntax.specs.declared.scope.Kind.TheVariants.{Chan, Var}
use Rattle.occ_run_steps.specs.Control.{Control, done, unbegun, after, both, local, channel, Controls, no_control, and_control}
use Rattle.occ_run_steps.specs.Step.{Step, is_event, leaving, same, step}
use Rattle.occ_run_steps.specs.Steps.{process_steps}
use Rattle.occ_run.specs.Effects.{Effect, leaf, offered, alone_of, pairs_of, in_body, off_all, off_channels}
use Rattle.occ_run.specs.declared.found.Found.{Found}
use Rattle.occ_run.specs.declared.place.Place.{Place}
use Rattle.occ_run.specs.Places.{names_at, values_at}
use Rattle.occ_run.specs.declared.found.Wanted.{Wanted}
use Rattle.occ_run.specs.declared.found.Found.TheVariants.{Step as Here, Past}

-- the steps of a process as effects on it
abbrev pub leaves : List (Step Control) → List (Step Effect)
leaves ks = map (leaving leaf) ks

-- the steps of a control, each with its effect
abbrev mutual
  pub effects : Environment → Values → Control → List (Step Effect)
  effects Γ s done = []
  effects Γ s (unbegun p) = leaves (process_steps Γ s p)
  effects Γ s (after C ps) = effects Γ s C
  effects Γ s (both Cs) = alone_of 0 (each_effects Γ s Cs) ++ pairs_of 0 (each_effects Γ s Cs)
  effects Γ s (local x w v C) = map (in_body x v) (effects (with_name Γ x (Var w)) (with_value s x v) C)
  effects Γ s (channel c w C) = off_channels ((record { 0 = c }, w) ∷ []) (effects (with_name Γ c (Chan w None)) s C)

  pub each_effects : Environment → Values → Controls → List (List (Step Effect))
  each_effects Γ s no_control = []
  each_effects Γ s (and_control C Cs) = effects Γ s C ∷ each_effects Γ s Cs

-- what is seen of a step is asked for: it isn't on hidden channels, and is the one event where there is one
abbrev pub asks : List (Name × Width) → Option Event → Option Event → Bool
asks cs None e = off_all cs e
asks cs (Some only) e = same only e && off_all cs e

abbrev pub asked : List (Name × Width) → Option Event → List (Step Effect) → List (Step Effect)
asked cs only ks = filter (λ k. asks cs only k.event) ks

-- At that number among the steps stands that one; or the number is so far behind the last.
abbrev pub IsAt : List (Step Effect) → ℕ → Found → Type 0
IsAt ks n (Here offer) = slice_get ks n ≡ Some (offered offer)
IsAt ks n (Past more) = length ks + more ≡ n

-- what stands at the number that is wanted, among the steps that are asked for
abbrev pub Finds : Wanted → List (Step Effect) → Found → Type 0
Finds wanted ks found = IsAt (asked wanted.hidden.now wanted.only ks) wanted.number found

-- so much is left of the number behind the steps; or it is that of the step k
abbrev pub IsOver : List (Step Effect) → ℕ → Step Effect → Option ℕ → Type 0
IsOver ks n k None = slice_get ks n ≡ Some k
IsOver ks n k (Some more) = length ks + more ≡ n

-- the same of what is wanted, and one step of which that is seen
abbrev pub IsOverOne : Wanted → Option Event → Option ℕ → Type 0
IsOverOne wanted event left = (k : Step Effect) → k.event ≡ event → IsOver (asked wanted.hidden.now wanted.only (k ∷ [])) wanted.number k left

-- the steps of a control at a place that are an event
abbrev pub steps_with : Event → Place → Control → List (Step Effect)
steps_with event place C = filter (is_event event) (effects (names_at place) (values_at place) C)

-- the input of a value on a channel, which a variable has then
abbrev pub input_of : Name → ℕ → Effect → ℕ → Step Effect
input_of chan x e v = step (Some (record { chan = chan; dir = Input; value = v })) ((x, v) ∷ []) e

-- those of some values in a row, of which this is the first
abbrev pub inputs_from : Name → ℕ → Effect → ℕ → ℕ → List (Step Effect)
inputs_from chan x e first count = map (input_of chan x e) (range_with_len first count)

-- of the values below a number
abbrev pub inputs : Name → ℕ → Effect → ℕ → List (Step Effect)
inputs chan x e size = inputs_from chan x e 0 size
