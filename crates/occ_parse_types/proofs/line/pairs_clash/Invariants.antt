use Rattle.std.proofs.Common.{◌≡◌, ◌≤◌, drop, length}
use Rattle.occ_parse_forms.specs.Shape.{all_said}
use Rattle.occ_parse_rules.specs.Places.{for_some}
use Rattle.occ_parse_rules.specs.Types.{pairs_clash}
use Rattle.occ_parse_types.proofs.line.pairs_clash.Given as goal

abbrev pub invariant-loop-k : goal.invariant-loop-k
invariant-loop-k l = (l.k ≤ length l.right) × (for_some l.scopes (λ ρ. pairs_clash l.scopes ρ (drop l.k l.left) (all_said (drop l.k l.right))) ≡ for_some l.scopes (λ ρ. pairs_clash l.scopes ρ l.left (all_said l.right)))
