use Rattle.std.proofs.Common.{◌≡◌, length, sym, subst, ⊎_elim}
use Rattle.std.proofs.lemmas.Result.{IfOk-weaker}
use Rattle.std.specs.Result.{IfOk}
use Rattle.occ_syntax.specs.declared.expr.Op.{Op}
use Rattle.occ_syntax.specs.declared.expr.Op.TheVariants.{And, Or, BitAnd, BitOr}
use Rattle.occ_syntax.specs.Eval.{applied}
use Rattle.occ_bits.specs.Circuits.{digits_of}
use Rattle.occ_bits.specs.Words.{IsWord, number_at}
use Rattle.occ_bits.proofs.Ends.{and_word, or_word, xor_word}
use Rattle.occ_bits.proofs.circuits.apply.Goals as goal

pub returns-in-And-clause-word : goal.returns-in-And-clause-word
returns-in-And-clause-word c =
    let P : Op → Type 0 = λ op. IfOk c.gates.result (λ word. IsWord c.gates.new.store (digits_of op (length c.args.left.now)) word (λ x. applied op (length c.args.left.now) (number_at c.args.store.now c.args.left.now x) (number_at c.args.store.now c.args.right.now x))) in
    ⊎_elim
    (λ (e : c.args.op ≡ And). subst P (sym e) (IfOk-weaker c.gates.result _ _ (λ word. and_word c.args.store.now c.gates.new.store c.args.left.now c.args.right.now word c.requires.same) c.gates.ensures.gates))
    (λ (e : c.args.op ≡ BitAnd). subst P (sym e) (IfOk-weaker c.gates.result _ _ (λ word. and_word c.args.store.now c.gates.new.store c.args.left.now c.args.right.now word c.requires.same) c.gates.ensures.gates))
    c.in-And.is

pub returns-in-Or-clause-word : goal.returns-in-Or-clause-word
returns-in-Or-clause-word c =
    let P : Op → Type 0 = λ op. IfOk c.gates-in-Or.result (λ word. IsWord c.gates-in-Or.new.store (digits_of op (length c.args.left.now)) word (λ x. applied op (length c.args.left.now) (number_at c.args.store.now c.args.left.now x) (number_at c.args.store.now c.args.right.now x))) in
    ⊎_elim
    (λ (e : c.args.op ≡ Or). subst P (sym e) (IfOk-weaker c.gates-in-Or.result _ _ (λ word. or_word c.args.store.now c.gates-in-Or.new.store c.args.left.now c.args.right.now word c.requires.same) c.gates-in-Or.ensures.gates))
    (λ (e : c.args.op ≡ BitOr). subst P (sym e) (IfOk-weaker c.gates-in-Or.result _ _ (λ word. or_word c.args.store.now c.gates-in-Or.new.store c.args.left.now c.args.right.now word c.requires.same) c.gates-in-Or.ensures.gates))
    c.in-Or.is

pub returns-in-BitXor-clause-word : goal.returns-in-BitXor-clause-word
returns-in-BitXor-clause-word c =
    let P : Op → Type 0 = λ op. IfOk c.gates-in-BitXor.result (λ word. IsWord c.gates-in-BitXor.new.store (digits_of op (length c.args.left.now)) word (λ x. applied op (length c.args.left.now) (number_at c.args.store.now c.args.left.now x) (number_at c.args.store.now c.args.right.now x))) in
    subst P (sym c.in-BitXor.is) (IfOk-weaker c.gates-in-BitXor.result _ _ (λ word. xor_word c.args.store.now c.gates-in-BitXor.new.store c.args.left.now c.args.right.now word c.requires.same) c.gates-in-BitXor.ensures.gates)
