use Rattle.std.specs.Prelude.{◌≡◌, List, [], ◌∷◌}
use Rattle.occ_node.specs.occ_base.declared.event.Event.{Event}
use Rattle.occ_node.specs.declared.node.NodeId.{NodeId}

-- offers of the same events, one after the other, whose nodes stand in a relation
abbrev pub Paired : (NodeId → NodeId → Type 0) → List (Event × NodeId) → List (Event × NodeId) → Type 0
Paired R [] [] = Unit {0}
Paired R [] (n ∷ news) = ⊥
Paired R (o ∷ olds) [] = ⊥
Paired R (o ∷ olds) (n ∷ news) = (o.0 ≡ n.0) × (R o.1 n.1 × Paired R olds news)
