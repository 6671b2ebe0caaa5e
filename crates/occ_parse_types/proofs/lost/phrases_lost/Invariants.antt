use Rattle.std.proofs.Common.{◌≡◌, drop}
use Rattle.std.specs.List.{list_any}
use Rattle.occ_parse_forms.specs.Shape.{all_said}
use Rattle.occ_parse_rules.specs.Names.{items_in_all}
use Rattle.occ_parse_types.specs.Lines.{is_lost}
use Rattle.occ_parse_types.proofs.lost.phrases_lost.Given as goal

abbrev pub invariant-loop-k : goal.invariant-loop-k
invariant-loop-k l = list_any (is_lost l.scopes) (items_in_all (all_said (drop l.k l.phrases))) ≡ list_any (is_lost l.scopes) (items_in_all (all_said l.phrases))
