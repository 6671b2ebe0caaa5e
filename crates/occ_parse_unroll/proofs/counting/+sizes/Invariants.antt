use Rattle.std.proofs.Common.{◌≡◌, ◌+◌, ◌*◌, ◌≤◌, min, drop}
use Rattle.occ_parse_rules.specs.Forest.{forest}
use Rattle.occ_parse_unroll.specs.Sizes.{sizes}
use Rattle.occ_parse_unroll.proofs.Lines.{lines}
use Rattle.occ_parse_unroll.proofs.counting.+sizes.Given as goal

abbrev pub decreases-first : goal.decreases-first
decreases-first l = 3 * lines (forest l.nodes.now)

abbrev pub decreases-parts : goal.decreases-parts
decreases-parts l = 3 * lines (forest l.nodes.now)

abbrev pub decreases-choices : goal.decreases-choices
decreases-choices l = 3 * lines (forest l.nodes.now)

abbrev pub decreases-alternatives : goal.decreases-alternatives
decreases-alternatives l = 3 * lines (forest l.nodes.now)

abbrev pub decreases-construct : goal.decreases-construct
decreases-construct l = 3 * lines (forest l.below.now) + 1

abbrev pub decreases-process : goal.decreases-process
decreases-process l = 3 * lines (forest l.below.now) + 2

abbrev pub decreases-choice : goal.decreases-choice
decreases-choice l = 3 * lines (forest l.below.now) + 2

abbrev pub decreases-alternative : goal.decreases-alternative
decreases-alternative l = 3 * lines (forest l.below.now) + 2

abbrev pub invariant-first-loop-node : goal.invariant-first-loop-node
invariant-first-loop-node l = record {
  whole : min 4097 ((sizes (forest (drop l.node-index l.nodes))).first l.waiting) ≡ min 4097 ((sizes (forest l.nodes)).first 0);
  few : l.waiting ≤ 4097;
  left : lines (forest (drop l.node-index l.nodes)) ≤ lines (forest l.nodes);
}

abbrev pub invariant-parts-loop-node : goal.invariant-parts-loop-node
invariant-parts-loop-node l = record {
  whole : min 4097 (l.count + (sizes (forest (drop l.node-index l.nodes))).parts l.waiting) ≡ min 4097 ((sizes (forest l.nodes)).parts 0);
  counted : l.count ≤ 4097;
  few : l.waiting ≤ 4097;
  left : lines (forest (drop l.node-index l.nodes)) ≤ lines (forest l.nodes);
}

abbrev pub invariant-choices-loop-node : goal.invariant-choices-loop-node
invariant-choices-loop-node l = record {
  whole : min 4097 (l.count + (sizes (forest (drop l.node-index l.nodes))).cases) ≡ min 4097 (sizes (forest l.nodes)).cases;
  counted : l.count ≤ 4097;
  left : lines (forest (drop l.node-index l.nodes)) ≤ lines (forest l.nodes);
}

abbrev pub invariant-alternatives-loop-node : goal.invariant-alternatives-loop-node
invariant-alternatives-loop-node l = record {
  whole : min 4097 (l.count + (sizes (forest (drop l.node-index l.nodes))).branches) ≡ min 4097 (sizes (forest l.nodes)).branches;
  counted : l.count ≤ 4097;
  left : lines (forest (drop l.node-index l.nodes)) ≤ lines (forest l.nodes);
}
