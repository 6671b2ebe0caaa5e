use Rattle.std.proofs.Common.{refl, sym, ap, ◌∙◌}
use Rattle.occ_parse_types.proofs.Expressions.{by_first, by_second}
use Rattle.occ_parse_types.proofs.Lines.{input_by, input_law, item_by, no_item_asked}
use Rattle.occ_parse_types.proofs.line.input_clashes.Goals as goal

pub returns-then-misplaced : goal.returns-then-misplaced
returns-then-misplaced c = sym c.if-misplaced.true ∙ by_first _ _ _ _ (input_law c.args.scopes.now c.args.chan c.args.var) c.misplaced.ensures c.if-misplaced.true

pub returns-then-misplaced-2 : goal.returns-then-misplaced-2
returns-then-misplaced-2 c = sym c.if-misplaced-2.true ∙ by_second _ _ _ _ _ (input_law c.args.scopes.now c.args.chan c.args.var) c.misplaced.ensures c.if-misplaced.false (by_first _ _ _ _ refl c.misplaced-2.ensures c.if-misplaced-2.true)

pub returns-in-Some : goal.returns-in-Some
returns-in-Some c = c.item_clashes.ensures ∙ sym (input_by c.args.scopes.now c.args.chan c.args.var c.item_width.result (sym c.misplaced.ensures ∙ c.if-misplaced.false) (sym c.misplaced-2.ensures ∙ c.if-misplaced-2.false) c.item_width.ensures ∙ ap (λ o. item_by c.args.scopes.now o c.args.var) c.in-Some.is)

pub returns-in-None : goal.returns-in-None
returns-in-None c = sym (input_by c.args.scopes.now c.args.chan c.args.var c.item_width.result (sym c.misplaced.ensures ∙ c.if-misplaced.false) (sym c.misplaced-2.ensures ∙ c.if-misplaced-2.false) c.item_width.ensures ∙ ap (λ o. item_by c.args.scopes.now o c.args.var) c.in-None.is ∙ no_item_asked c.args.scopes.now c.args.var)
