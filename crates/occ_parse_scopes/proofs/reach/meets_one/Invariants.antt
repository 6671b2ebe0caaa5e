use Rattle.std.proofs.Common.{◌≡◌, drop}
use Rattle.std.specs.List.{list_any}
use Rattle.occ_parse_scopes.specs.Reaching.{may_meet_any}
use Rattle.occ_parse_scopes.proofs.reach.meets_one.Given as goal

-- what the items that are left say is what all of them say
abbrev pub invariant-loop-b : goal.invariant-loop-b
invariant-loop-b l = list_any (may_meet_any l.a) (drop l.b-index l.others) ≡ list_any (may_meet_any l.a) l.others
