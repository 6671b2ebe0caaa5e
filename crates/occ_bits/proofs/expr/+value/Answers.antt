use Rattle.std.proofs.Common.{◌≡◌, length, sym, ap, ◌∙◌, subst, ⊎_elim}
use Rattle.std.proofs.lemmas.Result.{IfOk-weaker}
use Rattle.occ_syntax.specs.View.{exp}
use Rattle.occ_syntax.specs.Eval.{bits_of_exp}
use Rattle.occ_syntax.specs.Tree.{Exp, negation, complement, operation}
use Rattle.occ_bits.specs.Layout.{environment_in}
use Rattle.occ_bits.specs.Words.{IsValue, value_at}
use Rattle.occ_bits.proofs.Numbers.{word-keeps}
use Rattle.occ_bits.proofs.Values.{not_value, same_digits, turned_value, two_word}
use Rattle.occ_bits.proofs.expr.+value.Goals as goal

pub apply-requires-clause-same : goal.apply-requires-clause-same
apply-requires-clause-same t c =
    let e : exp c.args.expr.now ≡ operation c.in-Two.op (exp c.deref.result.now) (exp c.deref-in-Two.result.now) = ap exp c.in-Two.is ∙ ap (λ l. operation c.in-Two.op (exp l) (exp c.in-Two.right.value)) (sym c.deref.ensures) ∙ ap (λ r. operation c.in-Two.op (exp c.deref.result.now) (exp r)) (sym c.deref-in-Two.ensures) in
    ap length c.sets.ensures.sets ∙ c.in_ok-left_digits-in-Two.ensures.value.digits
    ∙ same_digits (environment_in c.args.entries.now) (exp c.args.expr.now) c.in-Two.op (exp c.deref.result.now) (exp c.deref-in-Two.result.now) e c.requires.typed
    ∙ sym c.in_ok-right_digits-in-Two.ensures.value.digits ∙ sym (ap length c.sets-in-Two.ensures.sets)

pub returns-in_ok-right_digits-in-Two-clause-value : goal.returns-in_ok-right_digits-in-Two-clause-value
returns-in_ok-right_digits-in-Two-clause-value t c =
    let e : exp c.args.expr.now ≡ operation c.in-Two.op (exp c.deref.result.now) (exp c.deref-in-Two.result.now) = ap exp c.in-Two.is ∙ ap (λ l. operation c.in-Two.op (exp l) (exp c.in-Two.right.value)) (sym c.deref.ensures) ∙ ap (λ r. operation c.in-Two.op (exp c.deref.result.now) (exp r)) (sym c.deref-in-Two.ensures) in
    IfOk-weaker c.apply.result _ _
    (λ word. two_word c.value-in-Two.new.store c.apply.new.store c.args.entries.now (exp c.args.expr.now) c.in-Two.op (exp c.deref.result.now) (exp c.deref-in-Two.result.now) c.sets.result.now c.sets-in-Two.result.now word e c.requires.typed
    (subst (λ l. IsValue c.value-in-Two.new.store c.args.entries.now (exp c.deref.result.now) l) (sym c.sets.ensures.sets)
    (word-keeps c.value.new.store c.value-in-Two.new.store c.value-in-Two.ensures.keeps (bits_of_exp (environment_in c.args.entries.now) (exp c.deref.result.now)) c.in_ok-left_digits-in-Two.left_digits (value_at c.args.entries.now (exp c.deref.result.now)) c.in_ok-left_digits-in-Two.ensures.value))
    (subst (λ r. IsValue c.value-in-Two.new.store c.args.entries.now (exp c.deref-in-Two.result.now) r) (sym c.sets-in-Two.ensures.sets) c.in_ok-right_digits-in-Two.ensures.value))
    c.apply.ensures.word

pub returns-in_ok-digits-in-Not-clause-value : goal.returns-in_ok-digits-in-Not-clause-value
returns-in_ok-digits-in-Not-clause-value t c =
    let operand : Exp = exp c.deref-in-Not.result.now in
    let before = subst (λ d. IsValue c.value-in-Not.new.store c.args.entries.now operand d) (sym c.sets-in-Not.ensures.sets) c.in_ok-digits-in-Not.ensures.value in
    ⊎_elim
    (λ e. IfOk-weaker c.flip.result _ _ (λ word. not_value c.value-in-Not.new.store c.flip.new.store c.args.entries.now (exp c.args.expr.now) operand c.sets-in-Not.result.now word (ap exp e ∙ ap (λ o. negation (exp o)) (sym c.deref-in-Not.ensures)) c.requires.typed before) c.flip.ensures.flipped)
    (λ e. IfOk-weaker c.flip.result _ _ (λ word. turned_value c.value-in-Not.new.store c.flip.new.store c.args.entries.now (exp c.args.expr.now) operand c.sets-in-Not.result.now word (ap exp e ∙ ap (λ o. complement (exp o)) (sym c.deref-in-Not.ensures)) before) c.flip.ensures.flipped)
    c.in-Not.is
