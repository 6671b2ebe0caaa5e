-- Sets of events that are wider.
use Rattle.std.specs.Prelude.{◌≡◌, ◌⊎◌, true, false}
use Rattle.occ_syntax.specs.occ_base.declared.event.Event.{Event}
use Rattle.occ_syntax.specs.Scopes.{Environment, EventSet, in_scope}

-- W has only events of X and events that aren't of the environment
abbrev pub IsWider : Environment → EventSet → EventSet → Type 0
IsWider Γ X W = (e : Event) → W e ≡ true → (X e ≡ true) ⊎ (in_scope Γ e ≡ false)
