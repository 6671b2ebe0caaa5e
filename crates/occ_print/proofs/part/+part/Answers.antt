use Rattle.std.proofs.Common.{refl, arith, ap, sym, ◌∙◌}
use Rattle.occ_syntax.specs.Tree.{seq, par, select, alt}
use Rattle.occ_syntax.specs.View.{tree, trees, cases, branches}
use Rattle.occ_syntax.proofs.Views.{tree-Seq, tree-Par, tree-If, tree-Alt}
use Rattle.occ_syntax.proofs.Weights.{weight, weight-seq, weight-par, weight-select, weight-alt, weight_in_all, weight_in_cases, weight_in_branches}
use Rattle.occ_syntax.proofs.Counting.{weight-declaring}
use Rattle.occ_print.specs.Levels.{level_of}
use Rattle.occ_print.specs.Lines.{part_lines}
use Rattle.occ_print.proofs.Parts.{declaring_lines, next_part, next_case, next_branch, line_off, first_known, rest_known, front_known, parts_left, cases_left, branches_left, part_printed, case_printed, branch_printed, lines_ok}
use Rattle.occ_print.proofs.part.+part.Goals as goal

pub push_all-push_part-requires : goal.push_all-push_part-requires
push_all-push_part-requires t c = (
  omega (arith, weight_in_all _ _ _ c.loop-part-test.true c.part-item.is, c.decreases),
  front_known _ _ _ _ (next_part _ _ _ _ c.loop-part-test.true c.part-item.is) c.loop-part.invariant.known,
)

pub push_all-loop-part-preserved : goal.push_all-loop-part-preserved
push_all-loop-part-preserved t c =
    record {
      whole = part_printed _ _ _ _ _ _ _ c.loop-part-test.true c.part-item.is c.in_ok-push_part.ensures ∙ c.loop-part.invariant.whole;
      known = parts_left _ _ _ _ _ c.loop-part-test.true c.part-item.is c.loop-part.invariant.known;
    }

pub push_choices-push_part-requires : goal.push_choices-push_part-requires
push_choices-push_part-requires t c =
    let e = next_case _ _ _ _ c.loop-condition-test.true c.loop-condition-item.is in (
      omega (arith, weight_in_cases _ _ _ c.loop-condition-test.true c.loop-condition-item.is, c.decreases),
      front_known _ _ _ _ refl (rest_known _ _ _ _ e c.loop-condition.invariant.known),
    )

pub push_choices-loop-condition-preserved : goal.push_choices-loop-condition-preserved
push_choices-loop-condition-preserved t c =
    record {
      whole = case_printed _ _ _ _ _ _ _ _ c.loop-condition-test.true c.loop-condition-item.is c.in_ok-push_condition_line.ensures c.in_ok-push_part.ensures ∙ c.loop-condition.invariant.whole;
      known = cases_left _ _ _ _ _ c.loop-condition-test.true c.loop-condition-item.is c.loop-condition.invariant.known;
    }

pub push_alternatives-push_part-requires : goal.push_alternatives-push_part-requires
push_alternatives-push_part-requires t c =
    let e = next_branch _ _ _ _ c.loop-guard-test.true c.loop-guard-item.is in (
      omega (arith, weight_in_branches _ _ _ c.loop-guard-test.true c.loop-guard-item.is, c.decreases),
      front_known _ _ _ _ refl (rest_known _ _ _ _ e c.loop-guard.invariant.known),
    )

pub push_alternatives-loop-guard-preserved : goal.push_alternatives-loop-guard-preserved
push_alternatives-loop-guard-preserved t c =
    record {
      whole = branch_printed _ _ _ _ _ _ _ _ c.loop-guard-test.true c.loop-guard-item.is c.in_ok-push_guard_line.ensures c.in_ok-push_part.ensures ∙ c.loop-guard.invariant.whole;
      known = branches_left _ _ _ _ _ c.loop-guard-test.true c.loop-guard-item.is c.loop-guard.invariant.known;
    }

pub push_part-loop-name-smaller : goal.push_part-loop-name-smaller
push_part-loop-name-smaller t c =
    let g = ap weight c.in-Some.ensures ∙ weight-declaring _ _ _ in
    omega (arith, g)

pub push_part-loop-name-preserved : goal.push_part-loop-name-preserved
push_part-loop-name-preserved t c =
    let g = ap weight c.in-Some.ensures ∙ weight-declaring _ _ _ in
    let e = ap (part_lines (level_of c.args.level.now)) c.in-Some.ensures ∙ declaring_lines _ _ _ _ in
    record {
      whole = line_off _ _ _ _ _ _ e c.in_ok-push_declaration_line.ensures ∙ c.loop-name.invariant.whole;
      known = rest_known _ _ _ _ e c.loop-name.invariant.known;
      left = omega (arith, g, c.loop-name.invariant.left);
    }

pub push_part-push_declaration_line-requires : goal.push_part-push_declaration_line-requires
push_part-push_declaration_line-requires t c =
    let e = ap (part_lines (level_of c.args.level.now)) c.in-Some.ensures ∙ declaring_lines _ _ _ _ in
    first_known _ _ _ _ e c.loop-name.invariant.known

pub push_undeclared-push_all-requires : goal.push_undeclared-push_all-requires
push_undeclared-push_all-requires t c =
    let e = ap tree c.in-Seq.is ∙ tree-Seq c.in-Seq.parts ∙ ap (λ ps. seq (trees ps)) (sym c.items.ensures) in
    (omega (arith, weight-seq _ _ e, c.decreases), rest_known _ _ _ _ (ap (part_lines (level_of c.args.level.now)) e) c.requires.known)

pub push_undeclared-push_all-requires-in-Par : goal.push_undeclared-push_all-requires-in-Par
push_undeclared-push_all-requires-in-Par t c =
    let e = ap tree c.in-Par.is ∙ tree-Par c.in-Par.parts ∙ ap (λ ps. par (trees ps)) (sym c.items-in-Par.ensures) in
    (omega (arith, weight-par _ _ e, c.decreases), rest_known _ _ _ _ (ap (part_lines (level_of c.args.level.now)) e) c.requires.known)

pub push_undeclared-push_choices-requires : goal.push_undeclared-push_choices-requires
push_undeclared-push_choices-requires t c =
    let e = ap tree c.in-If.is ∙ tree-If c.in-If.choices ∙ ap (λ cs. select (cases cs)) (sym c.items-in-If.ensures) in
    (omega (arith, weight-select _ _ e, c.decreases), rest_known _ _ _ _ (ap (part_lines (level_of c.args.level.now)) e) c.requires.known)

pub push_undeclared-push_alternatives-requires : goal.push_undeclared-push_alternatives-requires
push_undeclared-push_alternatives-requires t c =
    let e = ap tree c.in-Alt.is ∙ tree-Alt c.in-Alt.alternatives ∙ ap (λ bs. alt (branches bs)) (sym c.items-in-Alt.ensures) in
    (omega (arith, weight-alt _ _ e, c.decreases), rest_known _ _ _ _ (ap (part_lines (level_of c.args.level.now)) e) c.requires.known)

pub push_undeclared-returns-in_ok-push_word-in-Seq : goal.push_undeclared-returns-in_ok-push_word-in-Seq
push_undeclared-returns-in_ok-push_word-in-Seq t c =
    let e = ap tree c.in-Seq.is ∙ tree-Seq c.in-Seq.parts ∙ ap (λ ps. seq (trees ps)) (sym c.items.ensures) in
    lines_ok _ _ _ _ _ _ _ _ (ap (part_lines (level_of c.args.level.now)) e) c.in_ok-push_word-in-Seq.ensures c.push_all.ensures

pub push_undeclared-returns-in_ok-push_word-in-Par : goal.push_undeclared-returns-in_ok-push_word-in-Par
push_undeclared-returns-in_ok-push_word-in-Par t c =
    let e = ap tree c.in-Par.is ∙ tree-Par c.in-Par.parts ∙ ap (λ ps. par (trees ps)) (sym c.items-in-Par.ensures) in
    lines_ok _ _ _ _ _ _ _ _ (ap (part_lines (level_of c.args.level.now)) e) c.in_ok-push_word-in-Par.ensures c.push_all-in-Par.ensures

pub push_undeclared-returns-in_ok-push_word-in-If : goal.push_undeclared-returns-in_ok-push_word-in-If
push_undeclared-returns-in_ok-push_word-in-If t c =
    let e = ap tree c.in-If.is ∙ tree-If c.in-If.choices ∙ ap (λ ps. select (cases ps)) (sym c.items-in-If.ensures) in
    lines_ok _ _ _ _ _ _ _ _ (ap (part_lines (level_of c.args.level.now)) e) c.in_ok-push_word-in-If.ensures c.push_choices.ensures

pub push_undeclared-returns-in_ok-push_word-in-Alt : goal.push_undeclared-returns-in_ok-push_word-in-Alt
push_undeclared-returns-in_ok-push_word-in-Alt t c =
    let e = ap tree c.in-Alt.is ∙ tree-Alt c.in-Alt.alternatives ∙ ap (λ ps. alt (branches ps)) (sym c.items-in-Alt.ensures) in
    lines_ok _ _ _ _ _ _ _ _ (ap (part_lines (level_of c.args.level.now)) e) c.in_ok-push_word-in-Alt.ensures c.push_alternatives.ensures
