use Rattle.std.proofs.Common.{◌+◌, ◌*◌, ◌≤◌, drop}
use Rattle.occ_parse_rules.specs.Forest.{forest}
use Rattle.occ_parse.proofs.from_parse_unroll.Lines.{lines}
use Rattle.occ_place.proofs.walking.+places.Given as goal

abbrev pub decreases-slots : goal.decreases-slots
decreases-slots l = 3 * lines (forest l.nodes.now)

abbrev pub decreases-options : goal.decreases-options
decreases-options l = 3 * lines (forest l.nodes.now)

abbrev pub decreases-slot_copies : goal.decreases-slot_copies
decreases-slot_copies l = 3 * lines (forest l.line.1.now) + 1

abbrev pub decreases-option_copies : goal.decreases-option_copies
decreases-option_copies l = 3 * lines (forest l.line.1.now) + 1

abbrev pub decreases-process : goal.decreases-process
decreases-process l = 3 * lines (forest l.node.2.now) + 2

abbrev pub invariant-slots-loop-node : goal.invariant-slots-loop-node
invariant-slots-loop-node l = lines (forest (drop l.node-index l.nodes)) ≤ lines (forest l.nodes)

abbrev pub invariant-options-loop-node : goal.invariant-options-loop-node
invariant-options-loop-node l = lines (forest (drop l.node-index l.nodes)) ≤ lines (forest l.nodes)
