use Rattle.std.proofs.Common.{◌≡◌, map, drop}
use Rattle.occ_parse_forms.specs.Reading.{declared_of}
use Rattle.occ_parse_forms.specs.Symbols.{each, groups_of, in_front}
use Rattle.occ_parse_forms.proofs.declaration.declared_names.Given as goal

abbrev pub invariant-loop-group : goal.invariant-loop-group
invariant-loop-group l = in_front l.names (each (declared_of l.count) (map (λ group. group.now) (drop l.group-index l.group-items))) ≡ each (declared_of l.count) (groups_of l.symbols)
