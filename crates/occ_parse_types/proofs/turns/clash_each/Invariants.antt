use Rattle.std.proofs.Common.{◌≡◌, ◌+◌, ◌-◌}
use Rattle.std.specs.List.{list_any}
use Rattle.occ_parse_rules.specs.Places.{for_some, numbers_from}
use Rattle.occ_parse_rules.specs.Types.{sort_here}
use Rattle.occ_parse_types.specs.Asking.{items_clash}
use Rattle.occ_parse_types.specs.Turns.{sort_turn, turns}
use Rattle.occ_parse_types.proofs.turns.clash_each.Given as goal

abbrev pub invariant-loop-value : goal.invariant-loop-value
invariant-loop-value l = list_any (λ u. for_some l.scopes (λ ρ. items_clash (sort_turn l.scopes l.asker u) (sort_here l.scopes ρ l.item))) (numbers_from l.value (l.first + l.many - l.value)) ≡ list_any (λ u. for_some l.scopes (λ ρ. items_clash (sort_turn l.scopes l.asker u) (sort_here l.scopes ρ l.item))) (turns l.scopes l.asker)
