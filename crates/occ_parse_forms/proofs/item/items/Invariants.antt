use Rattle.std.proofs.Common.{◌≡◌, map, drop}
use Rattle.occ_parse_forms.specs.Reading.{item_of}
use Rattle.occ_parse_forms.specs.Symbols.{each, groups_of, in_front}
use Rattle.occ_parse_forms.proofs.item.items.Given as goal

abbrev pub invariant-loop-group : goal.invariant-loop-group
invariant-loop-group l = in_front l.items (each item_of (map (λ group. group.now) (drop l.group-index l.group-items))) ≡ each item_of (groups_of l.symbols)
