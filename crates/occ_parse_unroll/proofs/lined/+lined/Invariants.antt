use Rattle.std.proofs.Common.{◌≡◌, ◌++◌, ◌-◌, ◌+◌, ◌*◌, ◌≤◌, drop}
use Rattle.occ_parse_rules.specs.Forest.{forest}
use Rattle.occ_parse_rules.specs.Unrolled.{lined, repeated, times_of}
use Rattle.occ_parse_unroll.proofs.Lines.{lines}
use Rattle.occ_parse_unroll.proofs.lined.+lined.Given as goal

abbrev pub decreases-add_parts : goal.decreases-add_parts
decreases-add_parts l = 3 * lines (forest l.nodes.now)

abbrev pub decreases-add_options : goal.decreases-add_options
decreases-add_options l = 3 * lines (forest l.nodes.now)

abbrev pub decreases-add_part_copies : goal.decreases-add_part_copies
decreases-add_part_copies l = 3 * lines (forest l.below.now) + 1

abbrev pub decreases-add_option_copies : goal.decreases-add_option_copies
decreases-add_option_copies l = 3 * lines (forest l.below.now) + 1

abbrev pub decreases-add_part : goal.decreases-add_part
decreases-add_part l = 3 * lines (forest l.below.now) + 2

abbrev pub decreases-add_option : goal.decreases-add_option
decreases-add_option l = 3 * lines (forest l.below.now) + 2

abbrev pub invariant-add_parts-loop-node : goal.invariant-add_parts-loop-node
invariant-add_parts-loop-node l = record {
  whole : l.lines ++ (lined (forest (drop l.node-index l.nodes))).parts ≡ l.fn.lines ++ (lined (forest l.nodes)).parts;
  left : lines (forest (drop l.node-index l.nodes)) ≤ lines (forest l.nodes);
}

abbrev pub invariant-add_options-loop-node : goal.invariant-add_options-loop-node
invariant-add_options-loop-node l = record {
  whole : l.lines ++ (lined (forest (drop l.node-index l.nodes))).options ≡ l.fn.lines ++ (lined (forest l.nodes)).options;
  left : lines (forest (drop l.node-index l.nodes)) ≤ lines (forest l.nodes);
}

abbrev pub invariant-add_part_copies-loop : goal.invariant-add_part_copies-loop
invariant-add_part_copies-loop l = l.lines ++ repeated (l.end - l.counter) (lined (forest l.below)).parts ≡ l.fn.lines ++ repeated (times_of l.fn.times) (lined (forest l.below)).parts

abbrev pub invariant-add_option_copies-loop : goal.invariant-add_option_copies-loop
invariant-add_option_copies-loop l = l.lines ++ repeated (l.end - l.counter) (lined (forest l.below)).options ≡ l.fn.lines ++ repeated (times_of l.fn.times) (lined (forest l.below)).options
