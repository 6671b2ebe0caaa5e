use Rattle.std.proofs.Common.{◌≡◌, IfOk, take, arith, ap, sym, ◌∙◌, subst}
use Rattle.std.proofs.lemmas.List.{take-append-le, length_push}
use Rattle.occ_syntax.specs.Scopes.{environment}
use Rattle.occ_syntax.specs.Tree.{seq, par, select, alt}
use Rattle.occ_syntax.specs.Types.{types_kept}
use Rattle.occ_syntax.specs.View.{tree, trees, cases, branches}
use Rattle.occ_syntax.proofs.Views.{tree-Seq, tree-Par, tree-If, tree-Alt}
use Rattle.occ_syntax.proofs.Weights.{weight, weight-seq, weight-par, weight-select, weight-alt, weight_in_all, weight_in_cases, weight_in_branches}
use Rattle.occ_syntax.proofs.Counting.{weight-declaring}
use Rattle.occ_usage.proofs.Scoped.{typed_further, kinds_kept, kinds_longer}
use Rattle.occ_usage.proofs.typing.Typing.+typing.Goals as goal

pub part-loop-name-smaller : goal.part-loop-name-smaller
part-loop-name-smaller t c =
    let g = ap weight c.in-Some.ensures ∙ weight-declaring _ _ _ in
    omega (arith, g)

pub undeclared-parts-requires : goal.undeclared-parts-requires
undeclared-parts-requires t c =
    let e = weight-seq _ _ (ap tree c.in-Seq.is ∙ tree-Seq c.in-Seq.parts ∙ ap (λ ps. seq (trees ps)) (sym c.items-in-Seq.ensures)) in
    (omega (arith, e, c.decreases), tt)

pub undeclared-parts-requires-in-Par : goal.undeclared-parts-requires-in-Par
undeclared-parts-requires-in-Par t c =
    let e = weight-par _ _ (ap tree c.in-Par.is ∙ tree-Par c.in-Par.parts ∙ ap (λ ps. par (trees ps)) (sym c.items-in-Par.ensures)) in
    (omega (arith, e, c.decreases), tt)

pub undeclared-choices-requires : goal.undeclared-choices-requires
undeclared-choices-requires t c =
    let e = weight-select _ _ (ap tree c.in-If.is ∙ tree-If c.in-If.choices ∙ ap (λ cs. select (cases cs)) (sym c.items-in-If.ensures)) in
    (omega (arith, e, c.decreases), tt)

pub undeclared-alternatives-requires : goal.undeclared-alternatives-requires
undeclared-alternatives-requires t c =
    let e = weight-alt _ _ (ap tree c.in-Alt.is ∙ tree-Alt c.in-Alt.alternatives ∙ ap (λ bs. alt (branches bs)) (sym c.items-in-Alt.ensures)) in
    (omega (arith, e, c.decreases), tt)

pub parts-part-requires : goal.parts-part-requires
parts-part-requires t c = (omega (arith, weight_in_all _ _ _ c.loop-part-test.true c.part-item.is, c.decreases), tt)

pub choices-part-requires : goal.choices-part-requires
choices-part-requires t c = (omega (arith, weight_in_cases _ _ _ c.loop-condition-test.true c.loop-condition-item.is, c.decreases), tt)

pub alternatives-part-requires : goal.alternatives-part-requires
alternatives-part-requires t c = (omega (arith, weight_in_branches _ _ _ c.loop-guard-test.true c.loop-guard-item.is, c.decreases), tt)

pub undeclared-returns-in-Seq-clause-kept : goal.undeclared-returns-in-Seq-clause-kept
undeclared-returns-in-Seq-clause-kept t c =
    let e = ap tree c.in-Seq.is ∙ tree-Seq c.in-Seq.parts ∙ ap (λ ps. seq (trees ps)) (sym c.items-in-Seq.ensures) in
    subst (λ o. IfOk c.parts.result (λ kept. kept ≡ o)) (sym (ap (λ p. types_kept p (environment c.args.self.now.kinds)) e)) c.parts.ensures.kept

pub undeclared-returns-in-Par-clause-kept : goal.undeclared-returns-in-Par-clause-kept
undeclared-returns-in-Par-clause-kept t c =
    let e = ap tree c.in-Par.is ∙ tree-Par c.in-Par.parts ∙ ap (λ ps. par (trees ps)) (sym c.items-in-Par.ensures) in
    subst (λ o. IfOk c.parts-in-Par.result (λ kept. kept ≡ o)) (sym (ap (λ p. types_kept p (environment c.args.self.now.kinds)) e)) c.parts-in-Par.ensures.kept

pub undeclared-returns-in-If-clause-kept : goal.undeclared-returns-in-If-clause-kept
undeclared-returns-in-If-clause-kept t c =
    let e = ap tree c.in-If.is ∙ tree-If c.in-If.choices ∙ ap (λ cs. select (cases cs)) (sym c.items-in-If.ensures) in
    subst (λ o. IfOk c.choices.result (λ kept. kept ≡ o)) (sym (ap (λ p. types_kept p (environment c.args.self.now.kinds)) e)) c.choices.ensures.kept

pub undeclared-returns-in-Alt-clause-kept : goal.undeclared-returns-in-Alt-clause-kept
undeclared-returns-in-Alt-clause-kept t c =
    let e = ap tree c.in-Alt.is ∙ tree-Alt c.in-Alt.alternatives ∙ ap (λ bs. alt (branches bs)) (sym c.items-in-Alt.ensures) in
    subst (λ o. IfOk c.alternatives.result (λ kept. kept ≡ o)) (sym (ap (λ p. types_kept p (environment c.args.self.now.kinds)) e)) c.alternatives.ensures.kept

pub part-loop-name-preserved : goal.part-loop-name-preserved
part-loop-name-preserved t c =
    let g = ap weight c.in-Some.ensures ∙ weight-declaring _ _ _ in
    let inv = c.loop-name.invariant in
    record {
      kept = typed_further _ _ c.in-Some.name c.in-Some.kind c.unmarked.result c.loop-name.self.kinds c.enter.new.self c.width_of.result _ c.in-Some.ensures c.unmarked.ensures c.width_of.ensures (sym c.if-not-can_declare.ensures) c.in_ok-enter.ensures inv.kept;
      kinds = kinds_kept _ _ _ _ _ inv.longer c.in_ok-enter.ensures inv.kinds;
      longer = kinds_longer _ _ _ _ inv.longer c.in_ok-enter.ensures;
      left = omega (arith, g, inv.left);
    }
