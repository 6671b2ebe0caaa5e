use Rattle.std.proofs.Common.{◌≡◌, length, ap, ◌∙◌, subst, IfOk}
use Rattle.std.proofs.lemmas.List.{at_drop_all, length-map}
use Rattle.occ_syntax.specs.occ_base.declared.names.Name.{Name}
use Rattle.occ_meaning.specs.Substitution.{substituted}
use Rattle.occ_syntax.specs.View.{exp, exps, numbers}
use Rattle.occ_names.specs.Once.{same_number}
use Rattle.occ_names.proofs.Listed.{all_put, with_all-firsts, firsts_same, numbers_tested}
use Rattle.occ_names.proofs.substitution.substitute.Goals as goal

pub put-requires : goal.put-requires
put-requires c =
    let all = all_put same_number _ _ _ (at_drop_all numbers _ _ c.loop-var-test.false) c.loop-var.invariant ∙ with_all-firsts same_number numbers_tested _ ∙ firsts_same same_number numbers_tested _ c.requires.distinct in
    ap length all ∙ length-map _ (λ (k : Name). k.0) ∙ c.requires.lengths

pub returns : goal.returns
returns c =
    let all = all_put same_number _ _ _ (at_drop_all numbers _ _ c.loop-var-test.false) c.loop-var.invariant ∙ with_all-firsts same_number numbers_tested _ ∙ firsts_same same_number numbers_tested _ c.requires.distinct in
    subst (λ xs. IfOk c.put.result (λ made. exp made ≡ substituted xs (exps c.args.values.now) (exp c.args.expr.now))) all c.put.ensures
