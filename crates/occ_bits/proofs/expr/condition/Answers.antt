use Rattle.std.proofs.Common.{◌≡◌, ◌==◌, ◌∙◌, length, get_or, ap, subst, sym, arith}
use Rattle.occ_dd.specs.Store.{IsSet}
use Rattle.occ_syntax.specs.View.{exp}
use Rattle.occ_syntax.specs.Eval.{bits_of_exp}
use Rattle.occ_bits.specs.Circuits.{no_set}
use Rattle.occ_bits.specs.Layout.{environment_in}
use Rattle.occ_bits.specs.Words.{IsValue, value_at}
use Rattle.occ_bits.proofs.Values.{one_bit, one_digit}
use Rattle.occ_bits.proofs.expr.condition.Goals as goal

pub bounds-sets-0 : goal.bounds-sets-0
bounds-sets-0 c =
    let is : IsValue c.value.new.store c.args.layout.now (exp c.args.expr.now) c.in_ok-digits.digits = subst (λ es. IsValue c.value.new.store es (exp c.args.expr.now) c.in_ok-digits.digits) c.items.ensures.items c.in_ok-digits.ensures.value in
    let one : length c.sets.result.now ≡ 1 = ap length c.sets.ensures.sets ∙ is.digits ∙ one_bit (environment_in c.args.layout.now) (exp c.args.expr.now) c.requires.typed in
    omega (arith, one)

pub returns-clause-set : goal.returns-clause-set
returns-clause-set c =
    let is : IsValue c.value.new.store c.args.layout.now (exp c.args.expr.now) c.in_ok-digits.digits = subst (λ es. IsValue c.value.new.store es (exp c.args.expr.now) c.in_ok-digits.digits) c.items.ensures.items c.in_ok-digits.ensures.value in
    subst (λ d. IsSet c.value.new.store (get_or d 0 no_set) (λ x. value_at c.args.layout.now (exp c.args.expr.now) x == 1)) (sym c.sets.ensures.sets)
    (one_digit c.value.new.store (bits_of_exp (environment_in c.args.layout.now) (exp c.args.expr.now)) c.in_ok-digits.digits (value_at c.args.layout.now (exp c.args.expr.now)) is (one_bit (environment_in c.args.layout.now) (exp c.args.expr.now) c.requires.typed))
