-- The events of edges have names where those of the offers have.
use Rattle.std.proofs.Common.{◌<◌, not, ℕ, Bool, true, false, cond, List, [], ◌∷◌, ◌++◌, length}
use Rattle.std.proofs.lemmas.List.Elements.{All-from_recursion, recursion_from_All}
use Rattle.std.specs.List.{filter, All, AllByRecursion}
use Rattle.occ_syntax.specs.occ_base.declared.event.Event.{Event}
use Rattle.occ_tool_run.specs.occ_behaviour.Members.{AreNamed}
use Rattle.occ_tool_run.specs.occ_nform_table.Rows.{OffersAreNamed}
use Rattle.occ_draw.specs.declared.edges.Edge.{Edge}
use Rattle.occ_draw.specs.Edges.{alike, edges_of, events_like}

module _ (names : List (List ℕ)) where
  abbrev Known : List Event → Type 0
  Known events = AllByRecursion (λ (e : Event). e.chan.0 < length names) events

  abbrev Offered : List (Event × ℕ) → Type 0
  Offered offers = AllByRecursion (λ (o : Event × ℕ). o.0.chan.0 < length names) offers

  like_known : (o : Event × ℕ) (offers : List (Event × ℕ)) → Offered offers → Known (events_like o offers)
  like_known o [] all = tt
  like_known o (p ∷ offers) all = by (like_known o offers all.1) (alike o p)
    where
      by : Known (events_like o offers) → (b : Bool) → Known (cond b (p.0 ∷ []) [] ++ events_like o offers)
      by rest true = (all.0, rest)
      by rest false = rest

  abbrev AreKnown : List Edge → Type 0
  AreKnown edges = AllByRecursion (λ (edge : Edge). AreNamed names edge.events) edges

  kept_known : (test : Edge → Bool) (edges : List Edge) → AreKnown edges → AreKnown (filter test edges)
  kept_known test [] all = tt
  kept_known test (edge ∷ edges) all = by (kept_known test edges all.1) (test edge)
    where
      by : AreKnown (filter test edges) → (b : Bool) → AreKnown (cond b (edge ∷ filter test edges) (filter test edges))
      by rest true = (all.0, rest)
      by rest false = rest

  edges_known : (offers : List (Event × ℕ)) → Offered offers → AreKnown (edges_of offers)
  unfolding edges_of
  edges_known [] all = tt
  edges_known (o ∷ offers) all = (
    All-from_recursion (λ (e : Event). e.chan.0 < length names) (o.0 ∷ events_like o offers) (all.0, like_known o offers all.1),
    kept_known (λ edge. not (alike o edge.offer)) (edges_of offers) (edges_known offers all.1),
  )

pub edges_named : (names : List (List ℕ)) (offers : List (Event × ℕ)) → OffersAreNamed names offers → All (λ (edge : Edge). AreNamed names edge.events) (edges_of offers)
edges_named names offers all =
    All-from_recursion (λ (edge : Edge). AreNamed names edge.events) (edges_of offers) (edges_known names offers (recursion_from_All (λ (o : Event × ℕ). o.0.chan.0 < length names) offers all))
