use Rattle.std.proofs.Common.{◌≡◌, ◌++◌, take}
use Rattle.std.specs.List.{flat_map}
use Rattle.occ_draw.specs.Pictures.{edge_text}
use Rattle.occ_draw.proofs.rows.push_all.Given as goal

abbrev pub invariant-loop-edge : goal.invariant-loop-edge
invariant-loop-edge l = l.text.items ≡ l.fn.text.items ++ flat_map (edge_text l.names l.number) (take l.edge-index l.edges)
