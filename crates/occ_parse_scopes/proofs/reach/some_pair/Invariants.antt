use Rattle.std.proofs.Common.{◌≡◌, drop}
use Rattle.occ_parse_scopes.specs.Reaching.{some_pair}
use Rattle.occ_parse_scopes.proofs.reach.some_pair.Given as goal

-- what the items that are left say is what all of them say
abbrev pub invariant-loop-i : goal.invariant-loop-i
invariant-loop-i l = some_pair (drop l.i l.reaches) ≡ some_pair l.reaches
