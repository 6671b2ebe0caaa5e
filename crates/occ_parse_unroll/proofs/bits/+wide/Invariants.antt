use Rattle.std.proofs.Common.{◌≡◌, ◌+◌, ◌*◌, ◌≤◌, drop}
use Rattle.occ_parse_rules.specs.Forest.{forest}
use Rattle.occ_parse_unroll.specs.Bits.{wide_line}
use Rattle.occ_parse_unroll.proofs.Lines.{lines}
use Rattle.occ_parse_unroll.proofs.bits.+wide.Given as goal

abbrev pub decreases-wide : goal.decreases-wide
decreases-wide l = 2 * lines (forest l.nodes.now)

abbrev pub decreases-deeper_wide : goal.decreases-deeper_wide
decreases-deeper_wide l = 2 * lines (forest l.below.now) + 1

-- no line so far is wide
abbrev pub invariant-wide-loop-node : goal.invariant-wide-loop-node
invariant-wide-loop-node l = record {
  same : wide_line l.bits l.here (forest (drop l.node-index l.nodes)) ≡ wide_line l.bits l.bits (forest l.nodes);
  few : l.here ≤ 25;
  left : lines (forest (drop l.node-index l.nodes)) ≤ lines (forest l.nodes);
}
