use Rattle.std.proofs.Common.{◌≡◌, drop}
use Rattle.std.specs.List.{flat_map}
use Rattle.occ_parse.specs.occ_names.Once.{same_number, with_all}
use Rattle.occ_parse_part.specs.Arrays.{item_array}
use Rattle.occ_parse_part.proofs.arrays.add_items.Given as goal

-- those so far and those that are left are all
abbrev pub invariant-loop-item : goal.invariant-loop-item
invariant-loop-item l = with_all same_number l.arrays (flat_map item_array (drop l.item-index l.items)) ≡ with_all same_number l.fn.arrays (flat_map item_array l.items)
