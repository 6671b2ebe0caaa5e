use Rattle.std.proofs.Common.{◌≡◌, ◌≤◌, true, None, drop}
use Rattle.occ_parse_rules.specs.Forest.{forest}
use Rattle.occ_parse_rules.specs.Judging.{first_fault}
use Rattle.occ_parse_rules.specs.Names.{name_fault}
use Rattle.occ_parse_rules.specs.Types.{type_fault}
use Rattle.occ_parse_scopes.specs.Checking.{StandsOn}
use Rattle.occ_parse_scopes.proofs.Levels.{weight}
use Rattle.occ_parse_types.specs.Asking.{plain_counters}
use Rattle.occ_parse_types.proofs.types.+first_in.Given as goal

-- the number of lines
abbrev pub decreases-first_in : goal.decreases-first_in
decreases-first_in l = weight (forest l.nodes.now)

-- what the lines that are left have is what all of them have, and their names are in order
abbrev pub invariant-loop-node : goal.invariant-loop-node
invariant-loop-node l = record {
  stands : StandsOn l.scopes l.initial.scopes;
  rest : first_fault type_fault l.initial.scopes l.scopes (forest (drop l.node-index l.nodes)) ≡ first_fault type_fault l.initial.scopes l.initial.scopes (forest l.nodes);
  fewer : weight (forest (drop l.node-index l.nodes)) ≤ weight (forest l.nodes);
  names : first_fault name_fault l.initial.scopes l.scopes (forest (drop l.node-index l.nodes)) ≡ None;
  kept : plain_counters l.scopes ≡ true;
}
