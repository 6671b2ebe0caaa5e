use Rattle.std.proofs.Common.{◌≡◌, drop}
use Rattle.std.specs.List.{flat_map}
use Rattle.occ_parse.specs.occ_names.Once.{same_number, with_all}
use Rattle.occ_parse_forms.specs.Shape.{all_said}
use Rattle.occ_parse_rules.specs.Names.{items_in_all}
use Rattle.occ_parse_part.specs.Arrays.{item_array}
use Rattle.occ_parse_part.proofs.arrays.add_phrases.Given as goal

-- those so far and those that are left are all
abbrev pub invariant-loop-phrase : goal.invariant-loop-phrase
invariant-loop-phrase l =
    with_all same_number l.arrays (flat_map item_array (items_in_all (all_said (drop l.phrase-index l.phrases)))) ≡ with_all same_number l.fn.arrays (flat_map item_array (items_in_all (all_said l.phrases)))
