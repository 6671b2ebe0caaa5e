use Rattle.std.proofs.Common.{rules, ◌≡◌, None, Option, sym, ap, ◌∙◌, subst, ◌||◌, refl}
use Rattle.occ_syntax.specs.occ_base.declared.width.Width.TheVariants.{Bool as TruthValue}
use Rattle.occ_parse_rules.specs.Names.{items_in}
use Rattle.occ_parse_rules.specs.Places.{Sorts}
use Rattle.occ_parse_rules.specs.Types.{Class}
use Rattle.occ_parse_forms.specs.Shape.{said}
use Rattle.occ_parse_forms.specs.declared.phrase.Phrase.{Phrase}
use Rattle.occ_parse_types.specs.declared.asking.Asker.{Asker}
use Rattle.occ_parse_types.specs.declared.asking.Asker.TheVariants as asker
use Rattle.occ_parse_types.specs.Asking.{AllThere, IsWidth, asked_below, operands_width, some_clash, width_asked}
use Rattle.occ_parse_types.proofs.Widths.{there_left, there_right, asker_has_width}
use Rattle.occ_parse_types.proofs.Expressions.{by_first, by_second, clash_by, complement_clash, negation_clash, nobody_asks, two_clash}
use Rattle.occ_parse_types.proofs.expression.+clashes.Goals as goal

-- who asks the operands, said of the operands in their boxes
below : (Γ : Sorts) (a : Asker) (k : Class) (o : Option Asker) (l l' r r' : Phrase) → l ≡ l' → r ≡ r' → IsWidth Γ (λ ρ. asked_below k (width_asked Γ ρ a) (operands_width Γ ρ (said l) (said r))) o → IsWidth Γ (λ ρ. asked_below k (width_asked Γ ρ a) (operands_width Γ ρ (said l') (said r'))) o
below Γ a k o l l' r r' e f h =
    subst (λ q. IsWidth Γ (λ ρ. asked_below k (width_asked Γ ρ a) (operands_width Γ ρ (said l') (said q))) o) f
    (subst (λ q. IsWidth Γ (λ ρ. asked_below k (width_asked Γ ρ a) (operands_width Γ ρ (said q) (said r))) o) e h)

pub operands_asker-width-requires-clause-left : goal.operands_asker-width-requires-clause-left
operands_asker-width-requires-clause-left t c =
    subst (λ p. AllThere c.args.scopes.now (items_in (said p))) (sym c.deref-in-Two.ensures)
    (there_left c.args.scopes.now (said c.args.phrase.now) c.in-Two.op (said c.in-Two.left.value) (said c.in-Two.right.value) (ap said c.in-Two.is) c.requires.there)

pub operands_asker-width-requires-clause-right : goal.operands_asker-width-requires-clause-right
operands_asker-width-requires-clause-right t c =
    subst (λ p. AllThere c.args.scopes.now (items_in (said p))) (sym c.deref-in-Two-2.ensures)
    (there_right c.args.scopes.now (said c.args.phrase.now) c.in-Two.op (said c.in-Two.left.value) (said c.in-Two.right.value) (ap said c.in-Two.is) c.requires.there)

pub clashes-requires-in-Some : goal.clashes-requires-in-Some
clashes-requires-in-Some t c = (
  search rules,
  (
    c.requires.kept,
    (
      subst (λ p. AllThere c.args.scopes.now (items_in (said p))) (sym c.deref-in-Some.ensures)
          (there_left c.args.scopes.now (said c.args.phrase.now) c.in-Two.op (said c.in-Two.left.value) (said c.in-Two.right.value) (ap said c.in-Two.is) c.requires.there),
      asker_has_width c.args.scopes.now _ c.operands_asker-width.result c.in-Some.asker c.in-Some.is c.operands_asker-width.ensures,
    ),
  ),
)

pub clashes-requires-else-clashes : goal.clashes-requires-else-clashes
clashes-requires-else-clashes t c = (
  search rules,
  (
    c.requires.kept,
    (
      subst (λ p. AllThere c.args.scopes.now (items_in (said p))) (sym c.deref-else-clashes.ensures)
          (there_right c.args.scopes.now (said c.args.phrase.now) c.in-Two.op (said c.in-Two.left.value) (said c.in-Two.right.value) (ap said c.in-Two.is) c.requires.there),
      asker_has_width c.args.scopes.now _ c.operands_asker-width.result c.in-Some.asker c.in-Some.is c.operands_asker-width.ensures,
    ),
  ),
)

pub returns-then-refuses : goal.returns-then-refuses
returns-then-refuses t c = by_first _ _ _ _ (negation_clash c.args.scopes.now c.args.asker _ (said c.in-Not.operand.value) (ap said c.in-Not.is) c.requires.width) c.refuses-in-Not.ensures c.if-refuses.true

pub returns-else-refuses : goal.returns-else-refuses
returns-else-refuses t c = by_second _ _ _ _ _ (negation_clash c.args.scopes.now c.args.asker _ (said c.in-Not.operand.value) (ap said c.in-Not.is) c.requires.width) c.refuses-in-Not.ensures c.if-refuses.false (c.clashes.ensures ∙ ap (λ p. some_clash c.args.scopes.now (asker.Fixed TruthValue) (said p)) c.deref.ensures)

pub returns-then-refuses-2 : goal.returns-then-refuses-2
returns-then-refuses-2 t c = by_first _ _ _ _ (complement_clash c.args.scopes.now c.args.asker _ (said c.in-Flip.operand.value) (ap said c.in-Flip.is)) c.refuses-in-Flip.ensures c.if-refuses-2.true

pub returns-else-refuses-2 : goal.returns-else-refuses-2
returns-else-refuses-2 t c = by_second _ _ _ _ _ (complement_clash c.args.scopes.now c.args.asker _ (said c.in-Flip.operand.value) (ap said c.in-Flip.is)) c.refuses-in-Flip.ensures c.if-refuses-2.false (c.clashes-else-refuses-2.ensures ∙ ap (λ p. some_clash c.args.scopes.now c.args.asker (said p)) c.deref-else-refuses-2.ensures)

pub returns-then-operator_refuses : goal.returns-then-operator_refuses
returns-then-operator_refuses t c = by_first _ _ _ _ (two_clash c.args.scopes.now c.args.asker (said c.args.phrase.now) c.in-Two.op (said c.in-Two.left.value) (said c.in-Two.right.value) _ c.operands_asker-width.result (ap said c.in-Two.is) c.class-class.ensures c.requires.width (below c.args.scopes.now c.args.asker _ _ _ _ _ _ c.deref-in-Two.ensures c.deref-in-Two-2.ensures c.operands_asker-width.ensures)) c.operator_refuses.ensures c.if-operator_refuses.true

pub returns-then-clashes : goal.returns-then-clashes
returns-then-clashes t c = by_second _ _ _ _ _ (two_clash c.args.scopes.now c.args.asker (said c.args.phrase.now) c.in-Two.op (said c.in-Two.left.value) (said c.in-Two.right.value) _ c.operands_asker-width.result (ap said c.in-Two.is) c.class-class.ensures c.requires.width (below c.args.scopes.now c.args.asker _ _ _ _ _ _ c.deref-in-Two.ensures c.deref-in-Two-2.ensures c.operands_asker-width.ensures)) c.operator_refuses.ensures c.if-operator_refuses.false
    (by_first _ _ _ _ refl (c.clashes-in-Some.ensures ∙ ap (λ p. some_clash c.args.scopes.now c.in-Some.asker (said p)) c.deref-in-Some.ensures ∙ sym (ap (λ o. clash_by c.args.scopes.now o (said c.in-Two.left.value)) c.in-Some.is)) c.if-clashes.true)

pub returns-else-clashes : goal.returns-else-clashes
returns-else-clashes t c = by_second _ _ _ _ _ (two_clash c.args.scopes.now c.args.asker (said c.args.phrase.now) c.in-Two.op (said c.in-Two.left.value) (said c.in-Two.right.value) _ c.operands_asker-width.result (ap said c.in-Two.is) c.class-class.ensures c.requires.width (below c.args.scopes.now c.args.asker _ _ _ _ _ _ c.deref-in-Two.ensures c.deref-in-Two-2.ensures c.operands_asker-width.ensures)) c.operator_refuses.ensures c.if-operator_refuses.false
    (by_second _ _ _ _ _ refl (c.clashes-in-Some.ensures ∙ ap (λ p. some_clash c.args.scopes.now c.in-Some.asker (said p)) c.deref-in-Some.ensures ∙ sym (ap (λ o. clash_by c.args.scopes.now o (said c.in-Two.left.value)) c.in-Some.is)) c.if-clashes.false (c.clashes-else-clashes.ensures ∙ ap (λ p. some_clash c.args.scopes.now c.in-Some.asker (said p)) c.deref-else-clashes.ensures ∙ sym (ap (λ o. clash_by c.args.scopes.now o (said c.in-Two.right.value)) c.in-Some.is)))

pub returns-in-None : goal.returns-in-None
returns-in-None t c = by_second _ _ _ _ _ (two_clash c.args.scopes.now c.args.asker (said c.args.phrase.now) c.in-Two.op (said c.in-Two.left.value) (said c.in-Two.right.value) _ c.operands_asker-width.result (ap said c.in-Two.is) c.class-class.ensures c.requires.width (below c.args.scopes.now c.args.asker _ _ _ _ _ _ c.deref-in-Two.ensures c.deref-in-Two-2.ensures c.operands_asker-width.ensures)) c.operator_refuses.ensures c.if-operator_refuses.false
    (sym (ap (λ o. clash_by c.args.scopes.now o (said c.in-Two.left.value) || clash_by c.args.scopes.now o (said c.in-Two.right.value)) c.in-None.is ∙ ap (λ b. b || clash_by c.args.scopes.now None (said c.in-Two.right.value)) (nobody_asks c.args.scopes.now (said c.in-Two.left.value)) ∙ nobody_asks c.args.scopes.now (said c.in-Two.right.value)))
