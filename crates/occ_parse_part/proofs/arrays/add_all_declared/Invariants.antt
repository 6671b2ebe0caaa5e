use Rattle.std.proofs.Common.{◌≡◌, drop}
use Rattle.std.specs.List.{flat_map}
use Rattle.occ_parse.specs.occ_names.Once.{same_number, with_all}
use Rattle.occ_parse_part.specs.Arrays.{declared_array}
use Rattle.occ_parse_part.proofs.arrays.add_all_declared.Given as goal

-- those so far and those that are left are all
abbrev pub invariant-loop-one : goal.invariant-loop-one
invariant-loop-one l = with_all same_number l.arrays (flat_map declared_array (drop l.one-index l.declared)) ≡ with_all same_number l.fn.arrays (flat_map declared_array l.declared)
