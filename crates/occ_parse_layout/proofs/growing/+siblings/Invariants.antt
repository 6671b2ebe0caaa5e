use Rattle.std.proofs.Common.{◌≡◌, ℕ, ◌≤◌, ◌++◌, vec_len}
use Rattle.occ_parse_rules.specs.Forest.{forest, in_nodes, lines_at}
use Rattle.occ_parse_layout.specs.Nesting.{Nest, left}
use Rattle.occ_parse_layout.proofs.growing.+siblings.Given as goal

abbrev pub decreases-siblings : goal.decreases-siblings
decreases-siblings l = vec_len l.rows.now

abbrev pub decreases-loop-row : goal.decreases-loop-row
decreases-loop-row l = vec_len l.rows

abbrev pub invariant-loop-row : goal.invariant-loop-row
invariant-loop-row l = record {
  lines : left l.initial.rows.items ≡ lines_at l.level (forest (in_nodes l.nodes)) ++ left l.rows.items;
  nest : (base : ℕ) → Nest base l.level (left l.initial.rows.items) → Nest base l.level (left l.rows.items);
  shorter : vec_len l.rows ≤ vec_len l.initial.rows;
}
