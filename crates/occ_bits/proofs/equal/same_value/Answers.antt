use Rattle.std.proofs.Common.{length, sym, ap, ◌∙◌, subst}
use Rattle.std.proofs.lemmas.Result.{IfOk-weaker}
use Rattle.occ_syntax.specs.View.{exp}
use Rattle.occ_syntax.specs.Eval.{bits_of_exp}
use Rattle.occ_bits.specs.Layout.{environment_in}
use Rattle.occ_bits.specs.Words.{IsValue, value_at}
use Rattle.occ_bits.proofs.Compared.{equal_set, same_count}
use Rattle.occ_bits.proofs.Numbers.{word-keeps}
use Rattle.occ_bits.proofs.equal.same_value.Goals as goal

pub equal-requires-clause-same : goal.equal-requires-clause-same
equal-requires-clause-same c =
    ap length c.bits.ensures.bits ∙ c.in_ok-left_bits.ensures.value.digits ∙ same_count (environment_in c.args.layout.now) (exp c.args.left.now) (exp c.args.right.now) c.requires
    ∙ sym c.in_ok-right_bits.ensures.value.digits ∙ sym (ap length c.bits-2.ensures.bits)

pub returns-clause-set : goal.returns-clause-set
returns-clause-set c =
    IfOk-weaker c.equal.result _ _
    (λ r. equal_set c.word-2.new.store c.equal.new.store c.args.layout.now (exp c.args.left.now) (exp c.args.right.now) c.bits.result.now c.bits-2.result.now r
    (subst (λ l. IsValue c.word-2.new.store c.args.layout.now (exp c.args.left.now) l) (sym c.bits.ensures.bits)
    (word-keeps c.word.new.store c.word-2.new.store c.word-2.ensures.keeps (bits_of_exp (environment_in c.args.layout.now) (exp c.args.left.now)) c.in_ok-left_bits.left_bits (value_at c.args.layout.now (exp c.args.left.now)) c.in_ok-left_bits.ensures.value))
    (subst (λ l. IsValue c.word-2.new.store c.args.layout.now (exp c.args.right.now) l) (sym c.bits-2.ensures.bits) c.in_ok-right_bits.ensures.value))
    c.equal.ensures.equal
