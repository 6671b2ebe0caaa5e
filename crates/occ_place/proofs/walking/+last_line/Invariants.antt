use Rattle.std.proofs.Common.{◌≤◌, drop}
use Rattle.occ_parse_rules.specs.Forest.{forest}
use Rattle.occ_parse.proofs.from_parse_unroll.Lines.{lines}
use Rattle.occ_place.proofs.walking.+last_line.Given as goal

abbrev pub decreases-last_line : goal.decreases-last_line
decreases-last_line l = lines (forest l.nodes.now)

abbrev pub invariant-loop-node : goal.invariant-loop-node
invariant-loop-node l = lines (forest (drop l.node-index l.nodes)) ≤ lines (forest l.nodes)
