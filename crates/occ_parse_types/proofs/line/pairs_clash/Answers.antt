use Rattle.std.proofs.Common.{None, get_or, sym, ap, ◌∙◌, subst, arith}
use Rattle.occ_parse_forms.specs.Shape.{said}
use Rattle.occ_parse_rules.specs.Names.{items_in}
use Rattle.occ_parse_rules.specs.Places.{for_some}
use Rattle.occ_parse_rules.specs.Types.{value_clashes}
use Rattle.occ_parse_types.specs.declared.asking.Place.TheVariants as place
use Rattle.occ_parse_types.specs.Asking.{AllThere}
use Rattle.occ_parse_types.specs.Lines.{place_width}
use Rattle.occ_parse_types.proofs.Expressions.{by_first, by_rest}
use Rattle.occ_parse_types.proofs.Lines.{pairs_end_left, pairs_end_right, pairs_more, there_at, there_said}
use Rattle.occ_parse_types.proofs.line.pairs_clash.Goals as goal

pub returns-then-k-right : goal.returns-then-k-right
returns-then-k-right c = sym (sym c.loop-k.invariant.1 ∙ pairs_end_right c.args.scopes.now c.args.left.now c.args.right.now c.loop-k.k (omega arith))

pub value_clashes-requires-clause-item : goal.value_clashes-requires-clause-item
value_clashes-requires-clause-item c = there_at c.args.scopes.now c.args.left.now c.loop-k.k _ c.loop-k-test.true c.requires.left

pub value_clashes-requires-clause-value : goal.value_clashes-requires-clause-value
value_clashes-requires-clause-value c = subst (λ p. AllThere c.args.scopes.now (items_in (said p))) (sym c.index-right-k.is) (there_said c.args.scopes.now c.args.right.now c.loop-k.k c.index-right-k.result (omega arith) c.requires.right)

pub returns-then-value_clashes : goal.returns-then-value_clashes
returns-then-value_clashes c = sym c.if-value_clashes.true ∙ by_first _ _ _ _ (sym c.loop-k.invariant.1 ∙ pairs_more c.args.scopes.now c.args.left.now c.args.right.now c.loop-k.k (record { name = record { 0 = 0 }; index = None }) c.index-right-k.result c.loop-k-test.true (omega arith)) (c.value_clashes.ensures ∙ ap (λ p. for_some c.args.scopes.now (λ ρ. value_clashes c.args.scopes.now ρ (place_width c.args.scopes.now place.Variable (get_or c.args.left.now c.loop-k.k (record { name = record { 0 = 0 }; index = None })) ρ) (said p))) c.index-right-k.is) c.if-value_clashes.true

pub loop-k-preserved : goal.loop-k-preserved
loop-k-preserved c = (omega arith, by_rest _ _ _ _ (sym c.loop-k.invariant.1 ∙ pairs_more c.args.scopes.now c.args.left.now c.args.right.now c.loop-k.k (record { name = record { 0 = 0 }; index = None }) c.index-right-k.result c.loop-k-test.true (omega arith)) (c.value_clashes.ensures ∙ ap (λ p. for_some c.args.scopes.now (λ ρ. value_clashes c.args.scopes.now ρ (place_width c.args.scopes.now place.Variable (get_or c.args.left.now c.loop-k.k (record { name = record { 0 = 0 }; index = None })) ρ) (said p))) c.index-right-k.is) c.if-value_clashes.false)

pub returns : goal.returns
returns c = sym (sym c.loop-k.invariant.1 ∙ pairs_end_left c.args.scopes.now c.args.left.now c.args.right.now c.loop-k.k c.loop-k-test.false)
