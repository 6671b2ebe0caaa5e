use Rattle.std.specs.Prelude.{◌≡◌, ◌==◌, true}
use Rattle.std.proofs.lemmas.Bool.{eqb-true}
use Rattle.occ_node.specs.declared.node.NodeId.{NodeId}

-- nodes of equal numbers are the same
pub exact_node : (a b : NodeId) → (a.0 == b.0) ≡ true → a ≡ b
exact_node a b e = let same = eqb-true a.0 b.0 e in λ i. record { 0 = same i }
