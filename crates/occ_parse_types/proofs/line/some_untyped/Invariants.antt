use Rattle.std.proofs.Common.{◌≡◌, drop}
use Rattle.std.specs.List.{list_any}
use Rattle.occ_parse_forms.specs.Shape.{all_said}
use Rattle.occ_parse_rules.specs.Places.{for_some}
use Rattle.occ_parse_rules.specs.Types.{has_untyped}
use Rattle.occ_parse_types.proofs.line.some_untyped.Given as goal

abbrev pub invariant-loop-k : goal.invariant-loop-k
invariant-loop-k l = for_some l.scopes (λ ρ. list_any (has_untyped l.scopes ρ) (all_said (drop l.k l.phrases))) ≡ for_some l.scopes (λ ρ. list_any (has_untyped l.scopes ρ) (all_said l.phrases))
