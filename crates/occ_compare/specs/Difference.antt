-- The first difference of two processes: the first behaviour that a has and b hasn't, where before it they are alike, by four fixed rules.
use Rattle.std.specs.Prelude.{◌≡◌, ◌⊎◌, ◌↔◌, Bool, true, List, [], ◌∷◌}
use Rattle.std.specs.Ordering.{is_lt}
use Rattle.occ_syntax.specs.occ_base.declared.event.Event.{Event}
use Rattle.occ_syntax.specs.occ_base.declared.names.Name.{Name}
use Rattle.occ_syntax.specs.declared.scope.Kind.{Kind}
use Rattle.occ_syntax.specs.Scopes.{Trace}
use Rattle.occ_behaviour.specs.declared.behaviour.Last.{Last}
use Rattle.occ_behaviour.specs.declared.behaviour.Last.TheVariants.{Refuses, Ends}
use Rattle.occ_behaviour.specs.States.{state_less}
use Rattle.occ_node.specs.occ_accept.Order.{strict}
use Rattle.occ_compare.specs.Orders.{print_cmp, set_cmp}
use Rattle.occ_compare.specs.Views.{Values, Behaviours, after, Offers, Accepts, AreAlike}
use Rattle.occ_compare.specs.Excess.{IsRefusal, StandsFirst}

-- x is the least that the one has and the other hasn't: of what is less, both have it or neither
pub record IsLeastOnly {X : Type 0} (less : X → X → Bool) (own other : X → Type 0) (x : X) : Type 0 where
  pub has : own x
  pub lacks : other x → ⊥
  pub before : (y : X) → less y x ≡ true → own y ↔ other y

-- at once, the two end in the same states, accept the same sets, offer the same events
abbrev pub SameEnds : Behaviours → Behaviours → Type 0
SameEnds a b = (s : Values) → a.ends [] s ↔ b.ends [] s

abbrev pub SameAccepts : Behaviours → Behaviours → Type 0
SameAccepts a b = (set : List Event) → Accepts a set ↔ Accepts b set

abbrev pub SameOffers : Behaviours → Behaviours → Type 0
SameOffers a b = (e : Event) → Offers a e ↔ Offers b e

-- events and sets in the order of printing, by these parameters
module _ (ps : List (Name × Kind)) where
  -- the set is written in order, and everything outside it can be refused at once
  abbrev pub AcceptsList : Behaviours → List Event → Type 0
  AcceptsList a set = (strict (print_cmp ps) set ≡ true) × Accepts a set

  -- Rules 1 and 2: the least end that only a has; else, for the least set that only a accepts, by its size and then as a list, the
  -- refusal of all events outside it that either offers. That set is one of a's least acceptances.
  abbrev pub Stops : Behaviours → Behaviours → Last → Type 0
  Stops a b (Ends s) = IsLeastOnly state_less (a.ends []) (b.ends []) s
  Stops a b (Refuses events) = SameEnds a b × (set : List Event)
      × IsLeastOnly (λ s t. is_lt (set_cmp ps s t)) (AcceptsList a) (AcceptsList b) set × IsRefusal ps a b set events

  -- Rule 3: the least event that only a offers, and how a stands behind it.
  abbrev pub GoesAlone : Behaviours → Behaviours → Event → Last → Type 0
  GoesAlone a b e last = IsLeastOnly (λ f g. is_lt (print_cmp ps f g)) (Offers a) (Offers b) e × StandsFirst (after a e) last

  -- Rule 4: behind all lesser events the two are alike.
  abbrev pub GoesOn : Behaviours → Behaviours → Event → Type 0
  GoesOn a b e = SameOffers a b × ((f : Event) → is_lt (print_cmp ps f e) ≡ true → AreAlike (after a f) (after b f))

  -- A trace, and how a stands after it and b can't. Each rule comes where those before it don't fit.
  abbrev pub IsFirstDifference : Behaviours → Behaviours → Trace → Last → Type 0
  IsFirstDifference a b [] last = Stops a b last
  IsFirstDifference a b (e ∷ t) last = SameEnds a b × SameAccepts a b
      × (((t ≡ []) × GoesAlone a b e last) ⊎ (GoesOn a b e × IsFirstDifference (after a e) (after b e) t last))
