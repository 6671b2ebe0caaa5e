use Rattle.std.proofs.Common.{◌≡◌, drop}
use Rattle.std.specs.List.{list_any}
use Rattle.occ_parse_scopes.specs.Checking.{fails}
use Rattle.occ_parse_scopes.proofs.uses.Check.fails_among.Given as goal

-- what the items that are left say is what all of them say
abbrev pub invariant-loop-item : goal.invariant-loop-item
invariant-loop-item l = list_any (fails l.self l.scopes) (drop l.item-index l.items) ≡ list_any (fails l.self l.scopes) l.items
