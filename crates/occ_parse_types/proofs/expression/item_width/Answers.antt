use Rattle.std.proofs.Common.{sym, ◌∙◌}
use Rattle.occ_parse_types.proofs.Widths.{fixed_item, like_item}
use Rattle.occ_parse_types.proofs.expression.item_width.Goals as goal

pub returns-then-has_name : goal.returns-then-has_name
returns-then-has_name c = like_item c.args.scopes.now c.args.item c.requires.kept c.requires.there (sym c.has_name.ensures ∙ c.if-has_name.true)

pub returns-in-Some : goal.returns-in-Some
returns-in-Some c = fixed_item c.args.scopes.now c.args.item c.sort_turn.result _ (sym c.has_name.ensures ∙ c.if-has_name.false) c.sort_turn.ensures (sym c.in-Some.ensures)

pub returns-in-None : goal.returns-in-None
returns-in-None c = fixed_item c.args.scopes.now c.args.item c.sort_turn.result _ (sym c.has_name.ensures ∙ c.if-has_name.false) c.sort_turn.ensures (sym c.width_of_sort.ensures ∙ c.in-None.is)
