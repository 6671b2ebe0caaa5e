use Rattle.std.proofs.Common.{◌≡◌, map, drop}
use Rattle.occ_parse_forms.specs.Reading.{params_from, params_of}
use Rattle.occ_parse_forms.specs.Symbols.{in_front}
use Rattle.occ_parse_forms.proofs.declaration.params.Given as goal

abbrev pub invariant-loop-group : goal.invariant-loop-group
invariant-loop-group l = in_front l.params (params_from l.before (map (λ group. group.now) (drop l.group-index l.group-items))) ≡ params_of l.symbols
