use Rattle.std.proofs.Common.{arith, map, ap, sym, ◌∙◌}
use Rattle.std.proofs.lemmas.List.{take_all}
use Rattle.occ_syntax.specs.Declarations.{declaring}
use Rattle.occ_syntax.specs.Tree.{seq, par, select, alt}
use Rattle.occ_syntax.specs.View.{tree, trees, cases, branches}
use Rattle.occ_syntax.proofs.Views.{tree-Seq, tree-Par, tree-If, tree-Alt}
use Rattle.occ_syntax.proofs.Weights.{weight, weight-seq, weight-par, weight-select, weight-alt, weight_in_all, weight_in_cases, weight_in_branches}
use Rattle.occ_syntax.proofs.Counting.{weight-declaring}
use Rattle.occ_syntax.proofs.Within.{one_off}
use Rattle.occ_meaning.specs.Rename.{replacing, renamed}
use Rattle.occ_names.proofs.Replaced.{renamed-declaring, all_made, cases_made, branches_made, made_choice, made_alternative}
use Rattle.occ_names.proofs.replace.Replace.+replace.Goals as goal

pub part-loop-name-smaller : goal.part-loop-name-smaller
part-loop-name-smaller t c =
    let g = ap weight c.in-Some.ensures ∙ weight-declaring _ _ _ in
    omega (arith, g)

pub part-loop-name-preserved : goal.part-loop-name-preserved
part-loop-name-preserved t c =
    let g = ap weight c.in-Some.ensures ∙ weight-declaring _ _ _ in
    let r = replacing c.args.self.old.0 c.args.self.new.0 in
    let e = ap (λ p. renamed p r) c.in-Some.ensures ∙ renamed-declaring r _ _ _ ∙ ap (λ n. declaring n c.in-Some.kind (renamed (tree c.in-Some.body.now) r)) (sym c.name.ensures) in
    record {
      whole = one_off _ _ _ _ _ _ c.in_ok-push.ensures.ok e c.loop-name.invariant.whole;
      left = omega (arith, g, c.loop-name.invariant.left);
    }

pub undeclared-parts-requires : goal.undeclared-parts-requires
undeclared-parts-requires t c =
    let e = weight-seq _ _ (ap tree c.in-Seq.is ∙ tree-Seq c.in-Seq.parts ∙ ap (λ ps. seq (trees ps)) (sym c.items-in-Seq.ensures)) in
    (omega (arith, e, c.decreases), tt)

pub undeclared-parts-requires-in-Par : goal.undeclared-parts-requires-in-Par
undeclared-parts-requires-in-Par t c =
    let e = weight-par _ _ (ap tree c.in-Par.is ∙ tree-Par c.in-Par.parts ∙ ap (λ ps. par (trees ps)) (sym c.items-in-Par.ensures)) in
    (omega (arith, e, c.decreases), tt)

pub undeclared-choices-requires : goal.undeclared-choices-requires
undeclared-choices-requires t c =
    let e = weight-select _ _ (ap tree c.in-If.is ∙ tree-If c.in-If.choices ∙ ap (λ cs. select (cases cs)) (sym c.items-in-If.ensures)) in
    (omega (arith, e, c.decreases), tt)

pub undeclared-alternatives-requires : goal.undeclared-alternatives-requires
undeclared-alternatives-requires t c =
    let e = weight-alt _ _ (ap tree c.in-Alt.is ∙ tree-Alt c.in-Alt.alternatives ∙ ap (λ bs. alt (branches bs)) (sym c.items-in-Alt.ensures)) in
    (omega (arith, e, c.decreases), tt)

pub parts-part-requires : goal.parts-part-requires
parts-part-requires t c = (omega (arith, weight_in_all _ _ _ c.loop-part-test.true c.part-item.is, c.decreases), tt)

pub parts-returns : goal.parts-returns
parts-returns t c = let r = replacing c.args.self.old.0 c.args.self.new.0 in all_made r _ _ (c.loop-part.invariant ∙ ap (map (λ p. renamed (tree p) r)) (take_all _ _ c.loop-part-test.false))

pub choices-part-requires : goal.choices-part-requires
choices-part-requires t c = (omega (arith, weight_in_cases _ _ _ c.loop-condition-test.true c.loop-condition-item.is, c.decreases), tt)

pub alternatives-part-requires : goal.alternatives-part-requires
alternatives-part-requires t c = (omega (arith, weight_in_branches _ _ _ c.loop-guard-test.true c.loop-guard-item.is, c.decreases), tt)

pub choices-returns : goal.choices-returns
choices-returns t c = let r = replacing c.args.self.old.0 c.args.self.new.0 in cases_made r _ _ (c.loop-condition.invariant ∙ ap (map (made_choice r)) (take_all _ _ c.loop-condition-test.false))

pub alternatives-returns : goal.alternatives-returns
alternatives-returns t c = let r = replacing c.args.self.old.0 c.args.self.new.0 in branches_made r _ _ (c.loop-guard.invariant ∙ ap (map (made_alternative r)) (take_all _ _ c.loop-guard-test.false))

pub undeclared-returns-in_ok-parts-in-Seq : goal.undeclared-returns-in_ok-parts-in-Seq
undeclared-returns-in_ok-parts-in-Seq t c =
    let r = replacing c.args.self.old.0 c.args.self.new.0 in
    let e = ap tree c.in-Seq.is ∙ tree-Seq c.in-Seq.parts ∙ ap (λ ps. seq (trees ps)) (sym c.items-in-Seq.ensures) in
    tree-Seq _ ∙ ap seq c.in_ok-parts-in-Seq.ensures ∙ sym (ap (λ p. renamed p r) e)

pub undeclared-returns-in_ok-parts-in-Par : goal.undeclared-returns-in_ok-parts-in-Par
undeclared-returns-in_ok-parts-in-Par t c =
    let r = replacing c.args.self.old.0 c.args.self.new.0 in
    let e = ap tree c.in-Par.is ∙ tree-Par c.in-Par.parts ∙ ap (λ ps. par (trees ps)) (sym c.items-in-Par.ensures) in
    tree-Par _ ∙ ap par c.in_ok-parts-in-Par.ensures ∙ sym (ap (λ p. renamed p r) e)

pub undeclared-returns-in_ok-choices-in-If : goal.undeclared-returns-in_ok-choices-in-If
undeclared-returns-in_ok-choices-in-If t c =
    let r = replacing c.args.self.old.0 c.args.self.new.0 in
    let e = ap tree c.in-If.is ∙ tree-If c.in-If.choices ∙ ap (λ cs. select (cases cs)) (sym c.items-in-If.ensures) in
    tree-If _ ∙ ap select c.in_ok-choices-in-If.ensures ∙ sym (ap (λ p. renamed p r) e)

pub undeclared-returns-in_ok-alternatives-in-Alt : goal.undeclared-returns-in_ok-alternatives-in-Alt
undeclared-returns-in_ok-alternatives-in-Alt t c =
    let r = replacing c.args.self.old.0 c.args.self.new.0 in
    let e = ap tree c.in-Alt.is ∙ tree-Alt c.in-Alt.alternatives ∙ ap (λ bs. alt (branches bs)) (sym c.items-in-Alt.ensures) in
    tree-Alt _ ∙ ap alt c.in_ok-alternatives-in-Alt.ensures ∙ sym (ap (λ p. renamed p r) e)
