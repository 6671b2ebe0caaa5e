use Rattle.std.proofs.Common.{◌≡◌, ◌≤◌, drop}
use Rattle.occ_parse_rules.specs.Forest.{forest}
use Rattle.occ_parse_rules.specs.Judging.{first_fault}
use Rattle.occ_parse_rules.specs.Types.{direction_fault}
use Rattle.occ_parse_scopes.specs.Checking.{StandsOn}
use Rattle.occ_parse_scopes.proofs.Levels.{weight}
use Rattle.occ_parse_types.proofs.directions.+first_in.Given as goal

-- the number of lines
abbrev pub decreases-first_in : goal.decreases-first_in
decreases-first_in l = weight (forest l.nodes.now)

-- what the lines that are left have is what all of them have
abbrev pub invariant-loop-node : goal.invariant-loop-node
invariant-loop-node l =
    StandsOn l.scopes l.initial.scopes × (first_fault direction_fault l.initial.scopes l.scopes (forest (drop l.node-index l.nodes)) ≡ first_fault direction_fault l.initial.scopes l.initial.scopes (forest l.nodes)) × (weight (forest (drop l.node-index l.nodes)) ≤ weight (forest l.nodes))
