use Rattle.std.proofs.Common.{sym, ap, ◌∙◌}
use Rattle.occ_parse_forms.specs.Shape.{said}
use Rattle.occ_parse_types.proofs.Expressions.{by_first, clash_by, nobody_asks}
use Rattle.occ_parse_types.proofs.Lines.{value_by, value_law}
use Rattle.occ_parse_types.proofs.line.value_clashes.Goals as goal

pub returns-then-misplaced : goal.returns-then-misplaced
returns-then-misplaced c = sym c.if-misplaced.true ∙ by_first _ _ _ _ (value_law c.args.scopes.now c.args.place c.args.item (said c.args.value.now)) c.misplaced.ensures c.if-misplaced.true

pub returns-in-Some : goal.returns-in-Some
returns-in-Some c = c.clashes.ensures ∙ sym (value_by c.args.scopes.now c.args.place c.args.item (said c.args.value.now) c.item_width.result (sym c.misplaced.ensures ∙ c.if-misplaced.false) c.item_width.ensures ∙ ap (λ o. clash_by c.args.scopes.now o (said c.args.value.now)) c.in-Some.is)

pub returns-in-None : goal.returns-in-None
returns-in-None c = sym (value_by c.args.scopes.now c.args.place c.args.item (said c.args.value.now) c.item_width.result (sym c.misplaced.ensures ∙ c.if-misplaced.false) c.item_width.ensures ∙ ap (λ o. clash_by c.args.scopes.now o (said c.args.value.now)) c.in-None.is ∙ nobody_asks c.args.scopes.now (said c.args.value.now))
