use Rattle.std.specs.Prelude.{ℕ, Bool, List, [], ◌∷◌, Option, Some, None, is_some, nat_lt, if◌then◌else◌}
use Rattle.std.specs.List.{list_all}
use Rattle.std.specs.Ordering.{eq_by_cmp, on}
use Rattle.std.specs.declared.cmp.Ordering.{Ordering}
use Rattle.occ_accept.specs.occ_base.declared.event.Event.{Event}
use Rattle.occ_accept.specs.Order.{event_cmp}
use Rattle.occ_node.specs.declared.node.NodeId.{NodeId}

-- offers by their events
abbrev pub offer_cmp : Event × NodeId → Event × NodeId → Ordering
offer_cmp = on (λ o. o.0) event_cmp

-- the node that is offered at an event
abbrev pub next_in : List (Event × NodeId) → Event → Option NodeId
next_in [] e = None
next_in (o ∷ offers) e = if eq_by_cmp event_cmp e o.0 then Some o.1 else next_in offers e

abbrev pub is_offered : List (Event × NodeId) → Event → Bool
is_offered offers e = is_some (next_in offers e)

-- each offered node has a number below i
abbrev pub are_below : ℕ → List (Event × NodeId) → Bool
are_below i offers = list_all (λ o. nat_lt o.1.0 i) offers

-- each event of each set is offered
abbrev pub are_offered : List (Event × NodeId) → List (List Event) → Bool
are_offered offers sets = list_all (list_all (is_offered offers)) sets
