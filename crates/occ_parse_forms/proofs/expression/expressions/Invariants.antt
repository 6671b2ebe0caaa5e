use Rattle.std.proofs.Common.{◌≡◌, map, drop}
use Rattle.occ_parse_forms.specs.Reading.{expression_of}
use Rattle.occ_parse_forms.specs.Shape.{all_said}
use Rattle.occ_parse_forms.specs.Symbols.{each, groups_of, in_front}
use Rattle.occ_parse_forms.proofs.expression.expressions.Given as goal

abbrev pub invariant-loop-group : goal.invariant-loop-group
invariant-loop-group l = in_front (all_said l.phrases) (each expression_of (map (λ group. group.now) (drop l.group-index l.group-items))) ≡ each expression_of (groups_of l.symbols)
