use Rattle.std.proofs.Common.{◌≡◌, ◌≤◌, drop, []}
use Rattle.occ_parse_rules.specs.Forest.{forest}
use Rattle.occ_parse_rules.specs.Judging.{first_fault}
use Rattle.occ_parse_rules.specs.Limits.{count_fault as count_fault_of}
use Rattle.occ_parse_unroll.specs.Reading.{line_of}
use Rattle.occ_parse_unroll.proofs.Lines.{lines}
use Rattle.occ_parse_unroll.proofs.limits.+count_fault.Given as goal

abbrev pub decreases-count_fault : goal.decreases-count_fault
decreases-count_fault l = lines (forest l.nodes.now)

-- no line so far has a fault
abbrev pub invariant-loop-node : goal.invariant-loop-node
invariant-loop-node l = record {
  same : line_of (first_fault count_fault_of [] [] (forest (drop l.node-index l.nodes))) ≡ line_of (first_fault count_fault_of [] [] (forest l.nodes));
  left : lines (forest (drop l.node-index l.nodes)) ≤ lines (forest l.nodes);
}
