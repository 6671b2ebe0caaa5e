-- Edges as they are found, one offer after the other.
use Rattle.std.specs.Prelude.{ℕ, zero, suc, ◌==◌, Bool, ◌&&◌, if◌then◌else◌, List, [], ◌∷◌, ◌++◌, map}
use Rattle.std.specs.List.{All, list_any}
use Rattle.occ_syntax.specs.occ_base.declared.event.Dir.{Dir}
use Rattle.occ_syntax.specs.occ_base.declared.event.Event.{Event}
use Rattle.occ_syntax.specs.occ_base.declared.names.Name.{Name}
use Rattle.occ_tool_run.specs.occ_behaviour.Members.{AreNamed}
use Rattle.occ_syntax.specs.Scopes.{same_dir}
use Rattle.occ_draw.specs.declared.edges.Edge.{Edge}
use Rattle.occ_draw.specs.Edges.{alike}

-- the channel of an offer with its direction, and the row that it leads to
abbrev pub Way : Type 0
Way = (Name × Dir) × ℕ

abbrev pub way_of : Event × ℕ → Way
way_of o = ((o.0.chan, o.0.dir), o.1)

abbrev pub same_way : Way → Way → Bool
same_way w v = (w.0.0.0 == v.0.0.0 && same_dir w.0.1 v.0.1) && w.1 == v.1

abbrev pub ways_of : List Edge → List Way
ways_of edges = map (λ edge. way_of edge.offer) edges

-- ways with one more at the end, if it isn't there yet
abbrev pub with_way : List Way → Way → List Way
with_way ways way = if list_any (same_way way) ways then ways else ways ++ way ∷ []

-- an edge with one offer, and one with an offer more
abbrev pub edge_of : Event × ℕ → Edge
edge_of o = record { offer = o; events = o.0 ∷ [] }

abbrev pub grown : Edge → Event × ℕ → Edge
grown edge o = record { offer = edge.offer; events = edge.events ++ o.0 ∷ [] }

-- the edges with an offer more at the one of a place
abbrev pub grown_at : List Edge → ℕ → Event × ℕ → List Edge
grown_at [] i o = []
grown_at (edge ∷ edges) zero o = grown edge o ∷ edges
grown_at (edge ∷ edges) (suc i) o = edge ∷ grown_at edges i o

-- the edges with one offer more: at the first edge that it is like, or else at one of its own
abbrev pub with_offer : List Edge → Event × ℕ → List Edge
with_offer [] o = edge_of o ∷ []
with_offer (edge ∷ edges) o = if alike o edge.offer then grown edge o ∷ edges else edge ∷ with_offer edges o

-- the channels of the events of all edges have names
abbrev pub AreNamedEdges : List (List ℕ) → List Edge → Type 0
AreNamedEdges names edges = All (λ (edge : Edge). AreNamed names edge.events) edges
