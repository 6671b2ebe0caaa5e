use Rattle.std.proofs.Common.{◌≡◌, map, take}
use Rattle.occ_parse_scopes.specs.Reaching.{reach_of}
use Rattle.occ_parse_scopes.proofs.reach.all_reaches.Given as goal

abbrev pub invariant-loop-item : goal.invariant-loop-item
invariant-loop-item l = l.reaches.items ≡ map (reach_of l.scopes) (take l.item-index l.items)
