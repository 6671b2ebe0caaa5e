-- The first behaviour of b that a hasn't, by four fixed rules.
use Rattle.std.specs.Prelude.{◌≡◌, ◌⊎◌, ◌↔◌, true, false, List, [], ◌∷◌}
use Rattle.std.specs.Ordering.{is_lt}
use Rattle.occ_syntax.specs.occ_base.declared.event.Event.{Event}
use Rattle.occ_syntax.specs.occ_base.declared.names.Name.{Name}
use Rattle.occ_syntax.specs.declared.scope.Kind.{Kind}
use Rattle.occ_syntax.specs.Scopes.{Trace}
use Rattle.occ_behaviour.specs.declared.behaviour.Last.{Last}
use Rattle.occ_behaviour.specs.declared.behaviour.Last.TheVariants.{Refuses, Ends}
use Rattle.occ_behaviour.specs.States.{state_less}
use Rattle.occ_node.specs.occ_accept.Order.{strict}
use Rattle.occ_node.specs.occ_accept.Accept.{in_set}
use Rattle.occ_compare.specs.Orders.{print_cmp, set_cmp}
use Rattle.occ_compare.specs.Views.{Values, Behaviours, after, Offers, Accepts, IsWithin}

-- at once, b ends only where a does, accepts only what a accepts, offers only what a offers
abbrev pub EndsWithin : Behaviours → Behaviours → Type 0
EndsWithin b a = (s : Values) → b.ends [] s → a.ends [] s

abbrev pub AcceptsWithin : Behaviours → Behaviours → Type 0
AcceptsWithin b a = (set : List Event) → Accepts b set → Accepts a set

abbrev pub OffersWithin : Behaviours → Behaviours → Type 0
OffersWithin b a = (e : Event) → Offers b e → Offers a e

-- the least state in which only b can have ended
pub record IsLeastEnd (a b : Behaviours) (s : Values) : Type 0 where
  pub own : b.ends [] s
  pub other : a.ends [] s → ⊥
  pub before : (u : Values) → state_less u s ≡ true → b.ends [] u → a.ends [] u

-- how it stands at once: the least state in which it can have ended, or the empty refusal where it can't have ended
abbrev pub StandsFirst : Behaviours → Last → Type 0
StandsFirst b (Ends s) = b.ends [] s × ((u : Values) → state_less u s ≡ true → b.ends [] u → ⊥)
StandsFirst b (Refuses events) = (events ≡ []) × ((s : Values) → b.ends [] s → ⊥)

-- events and sets in the order of printing, by these parameters
module _ (ps : List (Name × Kind)) where
  -- The least set, by its size and then as a list, outside of which only b can refuse everything. It is one of b's least
  -- acceptances.
  pub record IsLeastSet (a b : Behaviours) (set : List Event) : Type 0 where
    pub listed : strict (print_cmp ps) set ≡ true
    pub own : Accepts b set
    pub other : Accepts a set → ⊥
    pub before : (s : List Event) → strict (print_cmp ps) s ≡ true → is_lt (set_cmp ps s set) ≡ true → Accepts b s → Accepts a s

  -- all events outside the set that either offers
  pub record IsRefusal (a b : Behaviours) (set events : List Event) : Type 0 where
    pub listed : strict (print_cmp ps) events ≡ true
    pub members : (e : Event) → (in_set events e ≡ true) ↔ ((Offers a e ⊎ Offers b e) × (in_set set e ≡ false))

  -- the least event that only b offers
  pub record IsLeastOffer (a b : Behaviours) (e : Event) : Type 0 where
    pub own : Offers b e
    pub other : Offers a e → ⊥
    pub before : (f : Event) → is_lt (print_cmp ps f e) ≡ true → Offers b f → Offers a f

  -- Rules 1 and 2: the least end that only b has; else, for the least set that only b accepts, the refusal of all offered events
  -- outside it.
  abbrev pub Stops : Behaviours → Behaviours → Last → Type 0
  Stops a b (Ends s) = IsLeastEnd a b s
  Stops a b (Refuses events) = EndsWithin b a × (set : List Event) × IsLeastSet a b set × IsRefusal a b set events

  -- Rule 3: the least event that only b offers, and how b stands behind it.
  abbrev pub GoesAlone : Behaviours → Behaviours → Event → Last → Type 0
  GoesAlone a b e last = IsLeastOffer a b e × StandsFirst (after b e) last

  -- Rule 4: behind all lesser events b is within a.
  abbrev pub GoesOn : Behaviours → Behaviours → Event → Type 0
  GoesOn a b e = OffersWithin b a × ((f : Event) → is_lt (print_cmp ps f e) ≡ true → IsWithin (after b f) (after a f))

  -- A trace, and how b stands after it and a can't. Each rule comes where those before it don't fit.
  abbrev pub IsFirstExcess : Behaviours → Behaviours → Trace → Last → Type 0
  IsFirstExcess a b [] last = Stops a b last
  IsFirstExcess a b (e ∷ t) last = EndsWithin b a × AcceptsWithin b a
      × (((t ≡ []) × GoesAlone a b e last) ⊎ (GoesOn a b e × IsFirstExcess (after a e) (after b e) t last))
