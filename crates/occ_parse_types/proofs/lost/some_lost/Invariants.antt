use Rattle.std.proofs.Common.{◌≡◌, drop}
use Rattle.std.specs.List.{list_any}
use Rattle.occ_parse_types.specs.Lines.{is_lost}
use Rattle.occ_parse_types.proofs.lost.some_lost.Given as goal

abbrev pub invariant-loop-item : goal.invariant-loop-item
invariant-loop-item l = list_any (is_lost l.scopes) (drop l.item-index l.items) ≡ list_any (is_lost l.scopes) l.items
