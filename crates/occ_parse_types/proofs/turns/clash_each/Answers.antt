use Rattle.std.proofs.Common.{◌+◌}
use Rattle.occ_parse_rules.specs.Places.{for_some}
use Rattle.occ_parse_rules.specs.Types.{sort_here}
use Rattle.occ_parse_types.specs.Asking.{items_clash}
use Rattle.occ_parse_types.specs.Turns.{sort_turn, turns}
use Rattle.occ_parse_types.proofs.Numbers.{turn_found, turn_passed, turns_over}
use Rattle.occ_parse_types.proofs.Turning.{some_apart}
use Rattle.occ_parse_types.proofs.turns.clash_each.Goals as goal

pub returns-then-clash_from_turn : goal.returns-then-clash_from_turn
returns-then-clash_from_turn c = turn_found (λ u. for_some c.args.scopes.now (λ ρ. items_clash (sort_turn c.args.scopes.now c.args.asker u) (sort_here c.args.scopes.now ρ c.args.item))) c.loop-value.value (c.turns-first.result.0 + c.turns-first.result.1) (turns c.args.scopes.now c.args.asker) c.clash_from_turn.result _ c.loop-value-test.true c.loop-value.invariant (c.clash_from_turn.ensures) c.if-clash_from_turn.true (some_apart c.args.scopes.now c.args.asker c.args.item items_clash c.requires)

pub loop-value-preserved : goal.loop-value-preserved
loop-value-preserved c = turn_passed (λ u. for_some c.args.scopes.now (λ ρ. items_clash (sort_turn c.args.scopes.now c.args.asker u) (sort_here c.args.scopes.now ρ c.args.item))) c.loop-value.value (c.turns-first.result.0 + c.turns-first.result.1) (turns c.args.scopes.now c.args.asker) c.clash_from_turn.result c.loop-value-test.true c.loop-value.invariant (c.clash_from_turn.ensures) c.if-clash_from_turn.false

pub returns : goal.returns
returns c = turns_over (λ u. for_some c.args.scopes.now (λ ρ. items_clash (sort_turn c.args.scopes.now c.args.asker u) (sort_here c.args.scopes.now ρ c.args.item))) c.loop-value.value (c.turns-first.result.0 + c.turns-first.result.1) (turns c.args.scopes.now c.args.asker) _ c.loop-value-test.false c.loop-value.invariant (some_apart c.args.scopes.now c.args.asker c.args.item items_clash c.requires)
