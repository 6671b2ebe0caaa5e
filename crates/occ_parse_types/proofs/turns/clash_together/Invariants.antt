use Rattle.std.proofs.Common.{◌≡◌, ◌+◌, ◌-◌}
use Rattle.std.specs.List.{list_any}
use Rattle.occ_parse_rules.specs.Places.{numbers_from}
use Rattle.occ_parse_types.specs.Asking.{items_clash}
use Rattle.occ_parse_types.specs.Turns.{sort_turn, turns}
use Rattle.occ_parse_types.proofs.turns.clash_together.Given as goal

abbrev pub invariant-loop-value : goal.invariant-loop-value
invariant-loop-value l = list_any (λ u. items_clash (sort_turn l.scopes l.asker u) (sort_turn l.scopes l.item u)) (numbers_from l.value (l.first + l.many - l.value)) ≡ list_any (λ u. items_clash (sort_turn l.scopes l.asker u) (sort_turn l.scopes l.item u)) (turns l.scopes l.asker)
