use Rattle.std.proofs.Common.{◌≡◌, drop}
use Rattle.std.specs.List.{flat_map}
use Rattle.occ_parse.specs.occ_names.Once.{same_number, with_all}
use Rattle.occ_parse_forms.specs.declared.form.Param.{Param}
use Rattle.occ_parse_part.specs.Arrays.{declared_array}
use Rattle.occ_parse_part.proofs.arrays.add_params.Given as goal

-- those so far and those that are left are all
abbrev pub invariant-loop-param : goal.invariant-loop-param
invariant-loop-param l = with_all same_number l.arrays (flat_map (λ (p : Param). declared_array p.declared) (drop l.param-index l.params)) ≡ with_all same_number l.fn.arrays (flat_map (λ (p : Param). declared_array p.declared) l.params)
