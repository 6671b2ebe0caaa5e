use Rattle.std.proofs.Common.{◌+◌, ap, ◌∙◌}
use Rattle.occ_parse_types.specs.Asking.{holds_of}
use Rattle.occ_parse_types.specs.Turns.{sort_turn, turns}
use Rattle.occ_parse_types.proofs.Numbers.{turn_found, turn_passed, turns_over}
use Rattle.occ_parse_types.proofs.Turning.{some_item}
use Rattle.occ_parse_types.proofs.turns.some_value.Goals as goal

pub returns-then-holds_of : goal.returns-then-holds_of
returns-then-holds_of c = turn_found (λ u. holds_of c.args.test (sort_turn c.args.scopes.now c.args.item u)) c.loop-value.value (c.turns-first.result.0 + c.turns-first.result.1) (turns c.args.scopes.now c.args.item) c.holds_of.result _ c.loop-value-test.true c.loop-value.invariant (c.holds_of.ensures ∙ ap (holds_of c.args.test) c.sort_turn.ensures) c.if-holds_of.true (some_item c.args.scopes.now c.args.item (holds_of c.args.test))

pub loop-value-preserved : goal.loop-value-preserved
loop-value-preserved c = turn_passed (λ u. holds_of c.args.test (sort_turn c.args.scopes.now c.args.item u)) c.loop-value.value (c.turns-first.result.0 + c.turns-first.result.1) (turns c.args.scopes.now c.args.item) c.holds_of.result c.loop-value-test.true c.loop-value.invariant (c.holds_of.ensures ∙ ap (holds_of c.args.test) c.sort_turn.ensures) c.if-holds_of.false

pub returns : goal.returns
returns c = turns_over (λ u. holds_of c.args.test (sort_turn c.args.scopes.now c.args.item u)) c.loop-value.value (c.turns-first.result.0 + c.turns-first.result.1) (turns c.args.scopes.now c.args.item) _ c.loop-value-test.false c.loop-value.invariant (some_item c.args.scopes.now c.args.item (holds_of c.args.test))
