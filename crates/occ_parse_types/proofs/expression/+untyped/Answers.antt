use Rattle.std.proofs.Common.{◌&&◌, is_none, false, rules, refl, sym, ap, ◌∙◌, subst}
use Rattle.occ_parse_rules.specs.Names.{items_in}
use Rattle.occ_parse_rules.specs.Places.{for_some}
use Rattle.occ_parse_rules.specs.Types.{compares, has_untyped}
use Rattle.occ_parse_scopes.proofs.Taken.{for_some_still}
use Rattle.occ_parse_types.proofs.Expressions.{by_first, by_second, two_untyped}
use Rattle.occ_parse_forms.specs.Shape.{said}
use Rattle.occ_parse_types.specs.Asking.{AllThere, class_of, operands_width}
use Rattle.occ_parse_types.proofs.Widths.{there_left, there_right}
use Rattle.occ_parse_types.proofs.expression.+untyped.Goals as goal

pub compares_unsettled-requires-clause-left : goal.compares_unsettled-requires-clause-left
compares_unsettled-requires-clause-left t c =
    subst (λ p. AllThere c.args.scopes.now (items_in (said p))) (sym c.deref-in-Two.ensures)
    (there_left c.args.scopes.now (said c.args.phrase.now) c.in-Two.op (said c.in-Two.left.value) (said c.in-Two.right.value) (ap said c.in-Two.is) c.requires.there)

pub compares_unsettled-requires-clause-right : goal.compares_unsettled-requires-clause-right
compares_unsettled-requires-clause-right t c =
    subst (λ p. AllThere c.args.scopes.now (items_in (said p))) (sym c.deref-in-Two-2.ensures)
    (there_right c.args.scopes.now (said c.args.phrase.now) c.in-Two.op (said c.in-Two.left.value) (said c.in-Two.right.value) (ap said c.in-Two.is) c.requires.there)

pub returns-in-Item : goal.returns-in-Item
returns-in-Item t c = sym (ap (λ p. for_some c.args.scopes.now (λ ρ. has_untyped c.args.scopes.now ρ (said p))) c.in-Item.is ∙ for_some_still c.args.scopes.now false)

pub returns-in-Numeral : goal.returns-in-Numeral
returns-in-Numeral t c = sym (ap (λ p. for_some c.args.scopes.now (λ ρ. has_untyped c.args.scopes.now ρ (said p))) c.in-Numeral.is ∙ for_some_still c.args.scopes.now false)

pub returns-in-Typed : goal.returns-in-Typed
returns-in-Typed t c = sym (ap (λ p. for_some c.args.scopes.now (λ ρ. has_untyped c.args.scopes.now ρ (said p))) c.in-Typed.is ∙ for_some_still c.args.scopes.now false)

pub returns-in-Truth : goal.returns-in-Truth
returns-in-Truth t c = sym (ap (λ p. for_some c.args.scopes.now (λ ρ. has_untyped c.args.scopes.now ρ (said p))) c.in-Truth.is ∙ for_some_still c.args.scopes.now false)

pub untyped-requires-else-compares_unsettled : goal.untyped-requires-else-compares_unsettled
untyped-requires-else-compares_unsettled t c = (
  search rules,
  (
    c.requires.kept,
    subst (λ p. AllThere c.args.scopes.now (items_in (said p))) (sym c.deref-else-compares_unsettled.ensures)
        (there_left c.args.scopes.now (said c.args.phrase.now) c.in-Two.op (said c.in-Two.left.value) (said c.in-Two.right.value) (ap said c.in-Two.is) c.requires.there),
  ),
)

pub untyped-requires-else-untyped : goal.untyped-requires-else-untyped
untyped-requires-else-untyped t c = (
  search rules,
  (
    c.requires.kept,
    subst (λ p. AllThere c.args.scopes.now (items_in (said p))) (sym c.deref-else-untyped.ensures)
        (there_right c.args.scopes.now (said c.args.phrase.now) c.in-Two.op (said c.in-Two.left.value) (said c.in-Two.right.value) (ap said c.in-Two.is) c.requires.there),
  ),
)

pub returns-then-compares_unsettled : goal.returns-then-compares_unsettled
returns-then-compares_unsettled t c = by_first _ _ _ _ (two_untyped c.args.scopes.now _ c.in-Two.op (said c.in-Two.left.value) (said c.in-Two.right.value) _ (ap said c.in-Two.is) c.class.ensures) (c.compares_unsettled.ensures ∙ ap (λ p. for_some c.args.scopes.now (λ ρ. compares (class_of c.class.result) && is_none (operands_width c.args.scopes.now ρ (said p) (said c.deref-in-Two-2.result.now)))) c.deref-in-Two.ensures ∙ ap (λ p. for_some c.args.scopes.now (λ ρ. compares (class_of c.class.result) && is_none (operands_width c.args.scopes.now ρ (said c.in-Two.left.value) (said p)))) c.deref-in-Two-2.ensures) c.if-compares_unsettled.true

pub returns-then-untyped : goal.returns-then-untyped
returns-then-untyped t c = by_second _ _ _ _ _ (two_untyped c.args.scopes.now _ c.in-Two.op (said c.in-Two.left.value) (said c.in-Two.right.value) _ (ap said c.in-Two.is) c.class.ensures) (c.compares_unsettled.ensures ∙ ap (λ p. for_some c.args.scopes.now (λ ρ. compares (class_of c.class.result) && is_none (operands_width c.args.scopes.now ρ (said p) (said c.deref-in-Two-2.result.now)))) c.deref-in-Two.ensures ∙ ap (λ p. for_some c.args.scopes.now (λ ρ. compares (class_of c.class.result) && is_none (operands_width c.args.scopes.now ρ (said c.in-Two.left.value) (said p)))) c.deref-in-Two-2.ensures) c.if-compares_unsettled.false
    (by_first _ _ _ _ refl (c.untyped-else-compares_unsettled.ensures ∙ ap (λ p. for_some c.args.scopes.now (λ ρ. has_untyped c.args.scopes.now ρ (said p))) c.deref-else-compares_unsettled.ensures) c.if-untyped.true)

pub returns-else-untyped : goal.returns-else-untyped
returns-else-untyped t c = by_second _ _ _ _ _ (two_untyped c.args.scopes.now _ c.in-Two.op (said c.in-Two.left.value) (said c.in-Two.right.value) _ (ap said c.in-Two.is) c.class.ensures) (c.compares_unsettled.ensures ∙ ap (λ p. for_some c.args.scopes.now (λ ρ. compares (class_of c.class.result) && is_none (operands_width c.args.scopes.now ρ (said p) (said c.deref-in-Two-2.result.now)))) c.deref-in-Two.ensures ∙ ap (λ p. for_some c.args.scopes.now (λ ρ. compares (class_of c.class.result) && is_none (operands_width c.args.scopes.now ρ (said c.in-Two.left.value) (said p)))) c.deref-in-Two-2.ensures) c.if-compares_unsettled.false
    (by_second _ _ _ _ _ refl (c.untyped-else-compares_unsettled.ensures ∙ ap (λ p. for_some c.args.scopes.now (λ ρ. has_untyped c.args.scopes.now ρ (said p))) c.deref-else-compares_unsettled.ensures) c.if-untyped.false (c.untyped-else-untyped.ensures ∙ ap (λ p. for_some c.args.scopes.now (λ ρ. has_untyped c.args.scopes.now ρ (said p))) c.deref-else-untyped.ensures))
