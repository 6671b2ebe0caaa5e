use Rattle.std.specs.Prelude.{ℕ, List, Option, None, unwrap_or}
use Rattle.occ_dd.specs.Diagram.{end_of, label_of}
use Rattle.occ_dd.specs.declared.node.Node.{Node}

-- the value of function i at an assignment
unfoldable pub value_at : {L : Type 0} → List (Node (Option L)) → ℕ → ℕ → Option L
value_at ns i x = unwrap_or (label_of ns (end_of ns i x)) None
