use Rattle.std.proofs.Common.{◌≡◌, ◌+◌, ◌-◌, ◌*◌, ◌≤◌, ℕ, List, [], length, drop, Some}
use Rattle.occ_syntax.specs.Tree.{no_tree, no_case, no_branch}
use Rattle.occ_syntax.specs.View.{trees, cases, branches, in_procs, in_choices, in_alternatives}
use Rattle.occ_parse_forms.specs.occ_lex.Symbols.{Extends}
use Rattle.occ_parse_rules.specs.Forest.{forest}
use Rattle.occ_parse_rules.specs.Places.{numbers_from}
use Rattle.occ_parse_rules.specs.Unrolled.{as_parts, branches_then, cases_then, copied, copies, first_tree, trees_then, unrolled}
use Rattle.occ_parse_unroll.specs.Known.{AreKnownLines}
use Rattle.occ_parse_unroll.specs.Numbers.{numbering}
use Rattle.occ_parse_unroll.specs.Present.{values_of}
use Rattle.occ_parse_unroll.proofs.Lines.{lines}
use Rattle.occ_parse_unroll.proofs.Pieces.{Widens}
use Rattle.occ_parse_unroll.specs.Elements.{as_slots, copied_places, elements, brought}
use Rattle.occ_parse_unroll.proofs.Elements.{copies_places}
use Rattle.occ_parse_unroll.proofs.unrolling.+unroll.Given as goal

abbrev pub decreases-slot : goal.decreases-slot
decreases-slot g l = 4 * lines (forest l.nodes.now)

abbrev pub decreases-add_slots : goal.decreases-add_slots
decreases-add_slots g l = 4 * lines (forest l.nodes.now)

abbrev pub decreases-add_choices : goal.decreases-add_choices
decreases-add_choices g l = 4 * lines (forest l.nodes.now)

abbrev pub decreases-add_alternatives : goal.decreases-add_alternatives
decreases-add_alternatives g l = 4 * lines (forest l.nodes.now)

abbrev pub decreases-add_slot_copies : goal.decreases-add_slot_copies
decreases-add_slot_copies g l = 4 * lines (forest l.below.now) + 1

abbrev pub decreases-add_choice_copies : goal.decreases-add_choice_copies
decreases-add_choice_copies g l = 4 * lines (forest l.below.now) + 1

abbrev pub decreases-add_alternative_copies : goal.decreases-add_alternative_copies
decreases-add_alternative_copies g l = 4 * lines (forest l.below.now) + 1

abbrev pub decreases-construct : goal.decreases-construct
decreases-construct g l = 4 * lines (forest l.below.now) + 2

abbrev pub decreases-process : goal.decreases-process
decreases-process g l = 4 * lines (forest l.below.now) + 3

abbrev pub decreases-add_choice : goal.decreases-add_choice
decreases-add_choice g l = 4 * lines (forest l.below.now) + 3

abbrev pub decreases-add_alternative : goal.decreases-add_alternative
decreases-add_alternative g l = 4 * lines (forest l.below.now) + 3

-- the first process is among the lines that are left
abbrev pub invariant-slot-loop-node : goal.invariant-slot-loop-node
invariant-slot-loop-node g l = record {
  whole : (t : List (List ℕ)) → Extends l.names t
      → first_tree ((unrolled (numbering (g.S.Numbering.number l.source t)) (forest (drop l.node-index l.nodes))).parts l.fn.context.scopes l.context.scopes l.waiting (values_of l.fn.context.values))
      ≡ first_tree ((unrolled (numbering (g.S.Numbering.number l.source t)) (forest l.nodes)).parts l.fn.context.scopes l.fn.context.scopes [] (values_of l.fn.context.values));
  values : l.context.values ≡ l.fn.context.values;
  scopes : Widens l.fn.context.scopes l.context.scopes;
  deep : l.depth ≡ length l.fn.context.scopes;
  known : g.S.Numbering.asks l.source → AreKnownLines (length l.fn.names) (forest (drop l.node-index l.nodes));
  table : brought (g.S.Numbering.brings l.source) l.names ((elements (forest (drop l.node-index l.nodes))).first l.context.scopes (values_of l.fn.context.values))
      ≡ brought (g.S.Numbering.brings l.source) l.fn.names ((elements (forest l.nodes)).first l.fn.context.scopes (values_of l.fn.context.values));
  grown : Extends l.fn.names l.names;
  left : lines (forest (drop l.node-index l.nodes)) ≤ lines (forest l.nodes);
}

-- the processes so far and those of the lines that are left are all
abbrev pub invariant-add_slots-loop-node : goal.invariant-add_slots-loop-node
invariant-add_slots-loop-node g l = record {
  whole : (t : List (List ℕ)) → Extends l.names t
      → trees_then (trees (in_procs l.parts)) ((unrolled (numbering (g.S.Numbering.number l.source t)) (forest (drop l.node-index l.nodes))).parts l.fn.context.scopes l.context.scopes l.waiting (values_of l.fn.context.values))
      ≡ trees_then (trees (in_procs l.fn.parts)) ((unrolled (numbering (g.S.Numbering.number l.source t)) (forest l.nodes)).parts l.fn.context.scopes l.fn.context.scopes [] (values_of l.fn.context.values));
  values : l.context.values ≡ l.fn.context.values;
  scopes : Widens l.fn.context.scopes l.context.scopes;
  deep : l.depth ≡ length l.fn.context.scopes;
  known : g.S.Numbering.asks l.source → AreKnownLines (length l.fn.names) (forest (drop l.node-index l.nodes));
  table : brought (g.S.Numbering.brings l.source) l.names ((elements (forest (drop l.node-index l.nodes))).parts l.fn.context.scopes l.context.scopes (values_of l.fn.context.values))
      ≡ brought (g.S.Numbering.brings l.source) l.fn.names ((elements (forest l.nodes)).parts l.fn.context.scopes l.fn.context.scopes (values_of l.fn.context.values));
  grown : Extends l.fn.names l.names;
  left : lines (forest (drop l.node-index l.nodes)) ≤ lines (forest l.nodes);
}

abbrev pub invariant-add_choices-loop-node : goal.invariant-add_choices-loop-node
invariant-add_choices-loop-node g l = record {
  whole : (t : List (List ℕ)) → Extends l.names t
      → cases_then (cases (in_choices l.list)) ((unrolled (numbering (g.S.Numbering.number l.source t)) (forest (drop l.node-index l.nodes))).cases l.fn.context.scopes (values_of l.fn.context.values))
      ≡ cases_then (cases (in_choices l.fn.list)) ((unrolled (numbering (g.S.Numbering.number l.source t)) (forest l.nodes)).cases l.fn.context.scopes (values_of l.fn.context.values));
  values : l.context.values ≡ l.fn.context.values;
  scopes : l.context.scopes ≡ l.fn.context.scopes;
  known : g.S.Numbering.asks l.source → AreKnownLines (length l.fn.names) (forest (drop l.node-index l.nodes));
  table : brought (g.S.Numbering.brings l.source) l.names ((elements (forest (drop l.node-index l.nodes))).cases l.fn.context.scopes (values_of l.fn.context.values))
      ≡ brought (g.S.Numbering.brings l.source) l.fn.names ((elements (forest l.nodes)).cases l.fn.context.scopes (values_of l.fn.context.values));
  grown : Extends l.fn.names l.names;
  left : lines (forest (drop l.node-index l.nodes)) ≤ lines (forest l.nodes);
}

abbrev pub invariant-add_alternatives-loop-node : goal.invariant-add_alternatives-loop-node
invariant-add_alternatives-loop-node g l = record {
  whole : (t : List (List ℕ)) → Extends l.names t
      → branches_then (branches (in_alternatives l.list)) ((unrolled (numbering (g.S.Numbering.number l.source t)) (forest (drop l.node-index l.nodes))).branches l.fn.context.scopes (values_of l.fn.context.values))
      ≡ branches_then (branches (in_alternatives l.fn.list)) ((unrolled (numbering (g.S.Numbering.number l.source t)) (forest l.nodes)).branches l.fn.context.scopes (values_of l.fn.context.values));
  values : l.context.values ≡ l.fn.context.values;
  scopes : l.context.scopes ≡ l.fn.context.scopes;
  known : g.S.Numbering.asks l.source → AreKnownLines (length l.fn.names) (forest (drop l.node-index l.nodes));
  table : brought (g.S.Numbering.brings l.source) l.names ((elements (forest (drop l.node-index l.nodes))).branches l.fn.context.scopes (values_of l.fn.context.values))
      ≡ brought (g.S.Numbering.brings l.source) l.fn.names ((elements (forest l.nodes)).branches l.fn.context.scopes (values_of l.fn.context.values));
  grown : Extends l.fn.names l.names;
  left : lines (forest (drop l.node-index l.nodes)) ≤ lines (forest l.nodes);
}

-- what there is so far and the copies that are left are all
abbrev pub invariant-add_slot_copies-loop-copy : goal.invariant-add_slot_copies-loop-copy
invariant-add_slot_copies-loop-copy g l = record {
  whole : (t : List (List ℕ)) → Extends l.names t
      → trees_then (trees (in_procs l.parts)) (copies trees_then no_tree l.times l.fn.context.scopes (values_of l.fn.context.values) (as_parts (unrolled (numbering (g.S.Numbering.number l.source t)) (forest l.below))) (numbers_from (l.times.base + l.copy) (l.times.count - l.copy)))
      ≡ trees_then (trees (in_procs l.fn.parts)) (copied trees_then no_tree (Some l.times) l.fn.context.scopes (values_of l.fn.context.values) (as_parts (unrolled (numbering (g.S.Numbering.number l.source t)) (forest l.below))));
  values : l.context.values ≡ l.fn.context.values;
  scopes : l.context.scopes ≡ l.fn.context.scopes;
  table : brought (g.S.Numbering.brings l.source) l.names (copies_places l.times l.fn.context.scopes (values_of l.fn.context.values) (as_slots (elements (forest l.below))) (numbers_from (l.times.base + l.copy) (l.times.count - l.copy)))
      ≡ brought (g.S.Numbering.brings l.source) l.fn.names (copied_places (Some l.times) l.fn.context.scopes (values_of l.fn.context.values) (as_slots (elements (forest l.below))));
  grown : Extends l.fn.names l.names;
}

-- what there is so far and the copies that are left are all
abbrev pub invariant-add_choice_copies-loop-copy : goal.invariant-add_choice_copies-loop-copy
invariant-add_choice_copies-loop-copy g l = record {
  whole : (t : List (List ℕ)) → Extends l.names t
      → cases_then (cases (in_choices l.list)) (copies cases_then no_case l.times l.fn.context.scopes (values_of l.fn.context.values) (unrolled (numbering (g.S.Numbering.number l.source t)) (forest l.below)).cases (numbers_from (l.times.base + l.copy) (l.times.count - l.copy)))
      ≡ cases_then (cases (in_choices l.fn.list)) (copied cases_then no_case (Some l.times) l.fn.context.scopes (values_of l.fn.context.values) (unrolled (numbering (g.S.Numbering.number l.source t)) (forest l.below)).cases);
  values : l.context.values ≡ l.fn.context.values;
  scopes : l.context.scopes ≡ l.fn.context.scopes;
  table : brought (g.S.Numbering.brings l.source) l.names (copies_places l.times l.fn.context.scopes (values_of l.fn.context.values) (elements (forest l.below)).cases (numbers_from (l.times.base + l.copy) (l.times.count - l.copy)))
      ≡ brought (g.S.Numbering.brings l.source) l.fn.names (copied_places (Some l.times) l.fn.context.scopes (values_of l.fn.context.values) (elements (forest l.below)).cases);
  grown : Extends l.fn.names l.names;
}

-- what there is so far and the copies that are left are all
abbrev pub invariant-add_alternative_copies-loop-copy : goal.invariant-add_alternative_copies-loop-copy
invariant-add_alternative_copies-loop-copy g l = record {
  whole : (t : List (List ℕ)) → Extends l.names t
      → branches_then (branches (in_alternatives l.list)) (copies branches_then no_branch l.times l.fn.context.scopes (values_of l.fn.context.values) (unrolled (numbering (g.S.Numbering.number l.source t)) (forest l.below)).branches (numbers_from (l.times.base + l.copy) (l.times.count - l.copy)))
      ≡ branches_then (branches (in_alternatives l.fn.list)) (copied branches_then no_branch (Some l.times) l.fn.context.scopes (values_of l.fn.context.values) (unrolled (numbering (g.S.Numbering.number l.source t)) (forest l.below)).branches);
  values : l.context.values ≡ l.fn.context.values;
  scopes : l.context.scopes ≡ l.fn.context.scopes;
  table : brought (g.S.Numbering.brings l.source) l.names (copies_places l.times l.fn.context.scopes (values_of l.fn.context.values) (elements (forest l.below)).branches (numbers_from (l.times.base + l.copy) (l.times.count - l.copy)))
      ≡ brought (g.S.Numbering.brings l.source) l.fn.names (copied_places (Some l.times) l.fn.context.scopes (values_of l.fn.context.values) (elements (forest l.below)).branches);
  grown : Extends l.fn.names l.names;
}
