use Rattle.std.specs.Prelude.{List}
use Rattle.occ_dd.specs.declared.node.Node.{Node}
use Rattle.occ_dd.specs.declared.table.Table.{Table}

-- the nodes of a table, each at its number; `e` and `h` are the comparison and the hash of labels
abbrev pub nodes_of : {T : Type 0} {e : _} {h : _} → Table T e h → List (Node T)
nodes_of t = t.nodes.keys
