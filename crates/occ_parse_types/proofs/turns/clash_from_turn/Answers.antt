use Rattle.std.proofs.Common.{sym, ◌∙◌, ap}
use Rattle.occ_parse_rules.specs.Types.{width_of_sort}
use Rattle.occ_parse_types.proofs.Turning.{none_asked}
use Rattle.occ_parse_types.proofs.turns.clash_from_turn.Goals as goal

pub returns-in-None : goal.returns-in-None
returns-in-None c = none_asked c.args.scopes.now _ c.args.item (sym (c.width_of_sort.ensures ∙ ap width_of_sort c.sort_turn.ensures) ∙ c.in-None.is)
