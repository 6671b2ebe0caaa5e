-- What the view of a node is, by the list of the nodes below it.
use Rattle.std.proofs.Common.{◌≡◌, refl, ap, sym, ◌∙◌}
use Rattle.occ_parse_rules.specs.declared.node.Node.{Node, Node', out-Node}
use Rattle.occ_parse_rules.specs.declared.node.Nodes.{Nodes, Nodes', Row_of-Node, end_of-Node, more_of-Node, items-the_row-Node, items_shown-the_row-Node-0, out-Nodes}
use Rattle.occ_parse_rules.specs.Forest.{Forest, and_line, grafted, under, row_forest, forest, in_nodes}
use Rattle.occ_parse_forms.specs.Shape.{shape}

row_forest_is : {m : _} (row : Row_of-Node m) → row_forest row ≡ forest (items-the_row-Node m row)
unfolding row_forest
row_forest_is end_of-Node = refl
row_forest_is (more_of-Node node rest) = ap (grafted node) (row_forest_is rest)

under_is : (nodes : Nodes) → under nodes ≡ forest (in_nodes nodes)
unfolding under in_nodes out-Nodes denote.Hole.Carrier.out
under_is (Nodes' s row) = row_forest_is row ∙ ap forest (sym (items_shown-the_row-Node-0 s row))

pub grafted_is : (node : Node) (rest : Forest) → grafted node rest ≡ and_line (out-Node node).line (shape (out-Node node).form) (forest (in_nodes (out-Node node).below)) rest
unfolding grafted out-Node in_nodes denote.Hole.Carrier.out
grafted_is (Node' line form below) rest = ap (λ b. and_line line (shape form) b rest) (under_is below)
