use Rattle.std.proofs.Common.{◌≡◌, ◌-◌}
use Rattle.std.specs.List.{list_any}
use Rattle.occ_parse_rules.specs.Places.{numbers_from}
use Rattle.occ_parse_scopes.specs.Reaching.{leaves, misses}
use Rattle.occ_parse_scopes.proofs.reach.leaves.Given as goal

-- what the values that are left say is what all of them say
abbrev pub invariant-loop-value : goal.invariant-loop-value
invariant-loop-value l = list_any (misses l.scopes l.reach) (numbers_from l.value (l.end - l.value)) ≡ leaves l.scopes l.reach
