use Rattle.std.proofs.Common.{sym, ap, ◌∙◌}
use Rattle.occ_parse_rules.specs.Types.{width_of_sort}
use Rattle.occ_parse_types.proofs.Apart.{apart_law}
use Rattle.occ_parse_types.proofs.Expressions.{by_first, by_second}
use Rattle.occ_parse_types.proofs.turns.clash_apart.Goals as goal

pub returns-then-some_value : goal.returns-then-some_value
returns-then-some_value c = by_first _ _ _ _ (apart_law c.args.scopes.now c.args.asker c.args.item c.in-Some.width c.turns-first.result.0 c.turns-first.result.1 c.requires.kept (sym c.has_name.ensures ∙ c.if-not-has_name.false) c.requires.differ c.turns-first.ensures.numbers c.turns-first.ensures.least (sym (c.width_of_sort.ensures ∙ ap width_of_sort c.sort_turn.ensures) ∙ c.in-Some.is)) c.some_value.ensures c.if-some_value.true

pub returns-else-some_value : goal.returns-else-some_value
returns-else-some_value c = by_second _ _ _ _ _ (apart_law c.args.scopes.now c.args.asker c.args.item c.in-Some.width c.turns-first.result.0 c.turns-first.result.1 c.requires.kept (sym c.has_name.ensures ∙ c.if-not-has_name.false) c.requires.differ c.turns-first.ensures.numbers c.turns-first.ensures.least (sym (c.width_of_sort.ensures ∙ ap width_of_sort c.sort_turn.ensures) ∙ c.in-Some.is)) c.some_value.ensures c.if-some_value.false c.some_value-else-some_value.ensures
