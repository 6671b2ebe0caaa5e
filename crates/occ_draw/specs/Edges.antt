-- The offers of a row as edges.
use Rattle.std.specs.Prelude.{ℕ, ◌==◌, Bool, not, ◌&&◌, if◌then◌else◌, List, [], ◌∷◌}
use Rattle.std.specs.List.{filter, flat_map, list_any}
use Rattle.occ_syntax.specs.occ_base.declared.event.Event.{Event}
use Rattle.occ_syntax.specs.Scopes.{same_event}
use Rattle.occ_draw.specs.declared.edges.Edge.{Edge}
use Rattle.occ_draw.specs.Spans.{is_in, same_end, spans_of}

-- two offers lead to one row on one channel
abbrev pub alike : Event × ℕ → Event × ℕ → Bool
alike o p = same_end o.0 p.0 && o.1 == p.1

-- the events of the offers that are like an offer
abbrev pub events_like : Event × ℕ → List (Event × ℕ) → List Event
events_like o offers = flat_map (λ p. if alike o p then p.0 ∷ [] else []) offers

-- The edges of offers: that of the first offer, with the events of all that are like it, and the edges of the others.
unfoldable pub edges_of : List (Event × ℕ) → List Edge
edges_of [] = []
edges_of (o ∷ offers) = record { offer = o; events = o.0 ∷ events_like o offers } ∷ filter (λ edge. not (alike o edge.offer)) (edges_of offers)

-- some edge leads to row n, and the event is in one of the spans at it
abbrev pub is_drawn : List (Event × ℕ) → Event → ℕ → Bool
is_drawn offers e n = list_any (λ edge. edge.offer.1 == n && list_any (is_in e) (spans_of edge.events)) (edges_of offers)

-- the event is offered, and row n is behind it
abbrev pub is_offered : List (Event × ℕ) → Event → ℕ → Bool
is_offered offers e n = list_any (λ o. o.1 == n && same_event e o.0) offers
