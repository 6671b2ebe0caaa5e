use Rattle.std.proofs.Common.{sym, ap, ◌∙◌, subst}
use Rattle.occ_parse_forms.specs.Shape.{said}
use Rattle.occ_parse_rules.specs.Names.{items_in}
use Rattle.occ_parse_rules.specs.Places.{for_some}
use Rattle.occ_parse_rules.specs.Types.{has_untyped}
use Rattle.occ_parse_types.specs.Asking.{AllThere}
use Rattle.occ_parse_types.proofs.Expressions.{by_first, by_rest}
use Rattle.occ_parse_types.proofs.Lines.{there_said, untyped_end, untyped_more}
use Rattle.occ_parse_types.proofs.line.some_untyped.Goals as goal

pub untyped-requires-clause-there : goal.untyped-requires-clause-there
untyped-requires-clause-there c = subst (λ p. AllThere c.args.scopes.now (items_in (said p))) (sym c.index-phrases-k.is) (there_said c.args.scopes.now c.args.phrases.now c.loop-k.k c.index-phrases-k.result c.loop-k-test.true c.requires.there)

pub returns-then-untyped : goal.returns-then-untyped
returns-then-untyped c = sym c.if-untyped.true ∙ by_first _ _ _ _ (sym c.loop-k.invariant ∙ untyped_more c.args.scopes.now c.args.phrases.now c.loop-k.k c.index-phrases-k.result c.loop-k-test.true) (c.untyped.ensures ∙ ap (λ p. for_some c.args.scopes.now (λ ρ. has_untyped c.args.scopes.now ρ (said p))) c.index-phrases-k.is) c.if-untyped.true

pub loop-k-preserved : goal.loop-k-preserved
loop-k-preserved c = by_rest _ _ _ _ (sym c.loop-k.invariant ∙ untyped_more c.args.scopes.now c.args.phrases.now c.loop-k.k c.index-phrases-k.result c.loop-k-test.true) (c.untyped.ensures ∙ ap (λ p. for_some c.args.scopes.now (λ ρ. has_untyped c.args.scopes.now ρ (said p))) c.index-phrases-k.is) c.if-untyped.false

pub returns : goal.returns
returns c = sym (sym c.loop-k.invariant ∙ untyped_end c.args.scopes.now c.args.phrases.now c.loop-k.k c.loop-k-test.false)
