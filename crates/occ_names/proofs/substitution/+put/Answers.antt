use Rattle.std.proofs.Common.{◌≡◌, ap, sym, ◌∙◌, subst, IfOk}
use Rattle.occ_meaning.specs.Substitution.{substituted}
use Rattle.occ_syntax.specs.View.{exp, exps}
use Rattle.occ_names.proofs.Substituted.{value_found, value_none}
use Rattle.occ_names.proofs.substitution.+put.Goals as goal

pub returns-in-Some : goal.returns-in-Some
returns-in-Some t c =
    let e = ap (λ d. substituted c.args.vars.now (exps c.args.values.now) (exp d)) c.in-Var.is in
    let f = value_found _ _ _ _ _ (sym c.in-Some.ensures) c.index-values-place.is c.requires in
    subst (λ d. IfOk c.copy.result (λ made. exp made ≡ d)) (f ∙ sym e) c.copy.ensures

pub returns-in-None : goal.returns-in-None
returns-in-None t c =
    let e = ap (λ d. substituted c.args.vars.now (exps c.args.values.now) (exp d)) c.in-Var.is in
    sym (e ∙ value_none _ _ _ (sym c.in-None.ensures))
