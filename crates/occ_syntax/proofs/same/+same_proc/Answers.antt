use Rattle.std.proofs.Common.{arith, ap, sym, ◌∙◌}
use Rattle.std.proofs.lemmas.Slice.Zip.{zip_turn, zip_end}
use Rattle.occ_syntax.specs.Tree.{Exp, Waiting, Tree, seq, par, select, alt}
use Rattle.occ_syntax.specs.View.{tree, trees, cases, branches}
use Rattle.occ_syntax.proofs.Views.{tree-Seq, tree-Par, tree-If, tree-Alt}
use Rattle.occ_syntax.proofs.Weights.{weight, weight-seq, weight-par, weight-select, weight-alt, weight_in_all, weight_in_cases, weight_in_branches}
use Rattle.occ_syntax.proofs.Counting.{weight-declaring}
use Rattle.occ_syntax.proofs.Rows.{alike_at, alike_long, alike_whole, choice, alternative, trees_tell, same_trees, cases_tell, same_cases, branches_tell, same_branches, refuted, refuted_by, confirmed, further_in, seq_alike, par_alike, select_alike, alt_alike}
use Rattle.occ_syntax.proofs.same.+same_proc.Goals as goal

pub same_procs-returns-then-left-right : goal.same_procs-returns-then-left-right
same_procs-returns-then-left-right t c = refuted (λ e. c.if-left-right.true (alike_long tree _ _ (trees_tell _ _ e)))

pub same_procs-same_proc-requires : goal.same_procs-same_proc-requires
same_procs-same_proc-requires t c =
    let z = zip_turn c.args.left.now c.args.right.now c.loop-part.yielded c.into_iter-part-iterator.result c.loop-part.part-iterator c.next.new.self c.next.result (cc) (cc) c.loop-part.yielded_by (c.in-Some.part, c.in-Some.other) c.in-Some.is c.next.ensures.steps in
    (omega (arith, weight_in_all _ _ _ z.0 (z.2 _), c.decreases), tt)

pub same_procs-returns-then-not-same_proc : goal.same_procs-returns-then-not-same_proc
same_procs-returns-then-not-same_proc t c =
    let z = zip_turn c.args.left.now c.args.right.now c.loop-part.yielded c.into_iter-part-iterator.result c.loop-part.part-iterator c.next.new.self c.next.result (cc) (cc) c.loop-part.yielded_by (c.in-Some.part, c.in-Some.other) c.in-Some.is c.next.ensures.steps in
    refuted_by (λ e. (alike_at tree _ _ _ _ _ z.0 z.1 (z.2 _) (z.3 _) (trees_tell _ _ e))) c.if-not-same_proc.ensures

pub same_procs-returns : goal.same_procs-returns
same_procs-returns t c =
    let n = zip_end c.args.left.now c.args.right.now c.loop-part.yielded c.into_iter-part-iterator.result c.loop-part.part-iterator c.next.new.self c.next.result (cc) (cc) c.loop-part.yielded_by c.in-None.is c.next.ensures.steps in
    confirmed (same_trees _ _ (alike_whole tree _ _ _ (omega (arith, n, c.if-left-right.false)) (omega (arith, n, c.if-left-right.false)) c.loop-part.invariant))

pub same_branches-returns-then-left-right : goal.same_branches-returns-then-left-right
same_branches-returns-then-left-right t c = refuted (λ e. c.if-left-right.true (alike_long alternative _ _ (branches_tell _ _ e)))

pub same_branches-same_proc-requires : goal.same_branches-same_proc-requires
same_branches-same_proc-requires t c =
    let z = zip_turn c.args.left.now c.args.right.now c.loop-alternative.yielded c.into_iter-alternative-iterator.result c.loop-alternative.alternative-iterator c.next.new.self c.next.result (cc) (cc) c.loop-alternative.yielded_by (c.in-Some.alternative, c.in-Some.other) c.in-Some.is c.next.ensures.steps in
    (omega (arith, weight_in_branches _ _ _ z.0 (z.2 _), c.decreases), tt)

pub same_branches-returns-then-not-same_proc : goal.same_branches-returns-then-not-same_proc
same_branches-returns-then-not-same_proc t c =
    let z = zip_turn c.args.left.now c.args.right.now c.loop-alternative.yielded c.into_iter-alternative-iterator.result c.loop-alternative.alternative-iterator c.next.new.self c.next.result (cc) (cc) c.loop-alternative.yielded_by (c.in-Some.alternative, c.in-Some.other) c.in-Some.is c.next.ensures.steps in
    refuted_by (λ e. ap (λ (a : Exp × Waiting × Tree). a.2) (alike_at alternative _ _ _ _ _ z.0 z.1 (z.2 _) (z.3 _) (branches_tell _ _ e))) c.if-not-same_proc.ensures

pub same_branches-returns : goal.same_branches-returns
same_branches-returns t c =
    let n = zip_end c.args.left.now c.args.right.now c.loop-alternative.yielded c.into_iter-alternative-iterator.result c.loop-alternative.alternative-iterator c.next.new.self c.next.result (cc) (cc) c.loop-alternative.yielded_by c.in-None.is c.next.ensures.steps in
    confirmed (same_branches _ _ (alike_whole alternative _ _ _ (omega (arith, n, c.if-left-right.false)) (omega (arith, n, c.if-left-right.false)) c.loop-alternative.invariant))

pub same_choices-returns-then-left-right : goal.same_choices-returns-then-left-right
same_choices-returns-then-left-right t c = refuted (λ e. c.if-left-right.true (alike_long choice _ _ (cases_tell _ _ e)))

pub same_choices-same_proc-requires : goal.same_choices-same_proc-requires
same_choices-same_proc-requires t c =
    let z = zip_turn c.args.left.now c.args.right.now c.loop-choice.yielded c.into_iter-choice-iterator.result c.loop-choice.choice-iterator c.next.new.self c.next.result (cc) (cc) c.loop-choice.yielded_by (c.in-Some.choice, c.in-Some.other) c.in-Some.is c.next.ensures.steps in
    (omega (arith, weight_in_cases _ _ _ z.0 (z.2 _), c.decreases), tt)

pub same_choices-returns-then-not-same_proc : goal.same_choices-returns-then-not-same_proc
same_choices-returns-then-not-same_proc t c =
    let z = zip_turn c.args.left.now c.args.right.now c.loop-choice.yielded c.into_iter-choice-iterator.result c.loop-choice.choice-iterator c.next.new.self c.next.result (cc) (cc) c.loop-choice.yielded_by (c.in-Some.choice, c.in-Some.other) c.in-Some.is c.next.ensures.steps in
    refuted_by (λ e. ap (λ (a : Exp × Tree). a.1) (alike_at choice _ _ _ _ _ z.0 z.1 (z.2 _) (z.3 _) (cases_tell _ _ e))) c.if-not-same_proc.ensures

pub same_choices-returns : goal.same_choices-returns
same_choices-returns t c =
    let n = zip_end c.args.left.now c.args.right.now c.loop-choice.yielded c.into_iter-choice-iterator.result c.loop-choice.choice-iterator c.next.new.self c.next.result (cc) (cc) c.loop-choice.yielded_by c.in-None.is c.next.ensures.steps in
    confirmed (same_cases _ _ (alike_whole choice _ _ _ (omega (arith, n, c.if-left-right.false)) (omega (arith, n, c.if-left-right.false)) c.loop-choice.invariant))

pub same_branches-returns-then-not-same_guard : goal.same_branches-returns-then-not-same_guard
same_branches-returns-then-not-same_guard t c =
    let z = zip_turn c.args.left.now c.args.right.now c.loop-alternative.yielded c.into_iter-alternative-iterator.result c.loop-alternative.alternative-iterator c.next.new.self c.next.result (cc) (cc) c.loop-alternative.yielded_by (c.in-Some.alternative, c.in-Some.other) c.in-Some.is c.next.ensures.steps in
    refuted_by (λ e. let a = alike_at alternative _ _ _ _ _ z.0 z.1 (z.2 _) (z.3 _) (branches_tell _ _ e) in (ap (λ (a : Exp × Waiting × Tree). a.0) a, ap (λ (a : Exp × Waiting × Tree). a.1) a)) c.if-not-same_guard.ensures

pub same_choices-returns-then-not-same_expr : goal.same_choices-returns-then-not-same_expr
same_choices-returns-then-not-same_expr t c =
    let z = zip_turn c.args.left.now c.args.right.now c.loop-choice.yielded c.into_iter-choice-iterator.result c.loop-choice.choice-iterator c.next.new.self c.next.result (cc) (cc) c.loop-choice.yielded_by (c.in-Some.choice, c.in-Some.other) c.in-Some.is c.next.ensures.steps in
    refuted_by (λ e. ap (λ (a : Exp × Tree). a.0) (alike_at choice _ _ _ _ _ z.0 z.1 (z.2 _) (z.3 _) (cases_tell _ _ e))) c.if-not-same_expr.ensures

pub same_proc-loop-name-smaller : goal.same_proc-loop-name-smaller
same_proc-loop-name-smaller t c =
    let g = ap weight c.in-Some.ensures ∙ weight-declaring _ _ _ in
    omega (arith, g)

pub same_proc-loop-name-preserved : goal.same_proc-loop-name-preserved
same_proc-loop-name-preserved t c =
    let g = ap weight c.in-Some.ensures ∙ weight-declaring _ _ _ in
    record {
      same = further_in _ _ _ _ _ _ _ _ c.in-Some.ensures c.in-Some-declared.ensures (c.same_declaration.ensures.0 c.if-not-same_declaration.false) c.loop-name.invariant.same;
      left = omega (arith, g, c.loop-name.invariant.left);
    }

pub same_undeclared-same_procs-requires : goal.same_undeclared-same_procs-requires
same_undeclared-same_procs-requires t c =
    let e = weight-seq _ _ (ap tree c.in-Seq.is ∙ tree-Seq c.in-Seq.parts ∙ ap (λ xs. seq (trees xs)) (sym c.items.ensures)) in
    (omega (arith, e, c.decreases), tt)

pub same_undeclared-returns-in-Seq-right : goal.same_undeclared-returns-in-Seq-right
same_undeclared-returns-in-Seq-right t c =
    let e = ap tree c.in-Seq.is ∙ tree-Seq c.in-Seq.parts ∙ ap (λ xs. seq (trees xs)) (sym c.items.ensures) in
    let d = ap tree c.in-Seq-right.is ∙ tree-Seq c.in-Seq-right.others ∙ ap (λ xs. seq (trees xs)) (sym c.items-in-Seq-right.ensures) in
    seq_alike _ _ _ _ _ e d c.same_procs.ensures

pub same_undeclared-same_procs-requires-in-Par-right : goal.same_undeclared-same_procs-requires-in-Par-right
same_undeclared-same_procs-requires-in-Par-right t c =
    let e = weight-par _ _ (ap tree c.in-Par.is ∙ tree-Par c.in-Par.parts ∙ ap (λ xs. par (trees xs)) (sym c.items-in-Par-right.ensures)) in
    (omega (arith, e, c.decreases), tt)

pub same_undeclared-returns-in-Par-right : goal.same_undeclared-returns-in-Par-right
same_undeclared-returns-in-Par-right t c =
    let e = ap tree c.in-Par.is ∙ tree-Par c.in-Par.parts ∙ ap (λ xs. par (trees xs)) (sym c.items-in-Par-right.ensures) in
    let d = ap tree c.in-Par-right.is ∙ tree-Par c.in-Par-right.others ∙ ap (λ xs. par (trees xs)) (sym c.items-in-Par-right-2.ensures) in
    par_alike _ _ _ _ _ e d c.same_procs-in-Par-right.ensures

pub same_undeclared-same_choices-requires : goal.same_undeclared-same_choices-requires
same_undeclared-same_choices-requires t c =
    let e = weight-select _ _ (ap tree c.in-If.is ∙ tree-If c.in-If.choices ∙ ap (λ xs. select (cases xs)) (sym c.items-in-If-right.ensures)) in
    (omega (arith, e, c.decreases), tt)

pub same_undeclared-returns-in-If-right : goal.same_undeclared-returns-in-If-right
same_undeclared-returns-in-If-right t c =
    let e = ap tree c.in-If.is ∙ tree-If c.in-If.choices ∙ ap (λ xs. select (cases xs)) (sym c.items-in-If-right.ensures) in
    let d = ap tree c.in-If-right.is ∙ tree-If c.in-If-right.others ∙ ap (λ xs. select (cases xs)) (sym c.items-in-If-right-2.ensures) in
    select_alike _ _ _ _ _ e d c.same_choices.ensures

pub same_undeclared-same_branches-requires : goal.same_undeclared-same_branches-requires
same_undeclared-same_branches-requires t c =
    let e = weight-alt _ _ (ap tree c.in-Alt.is ∙ tree-Alt c.in-Alt.alternatives ∙ ap (λ xs. alt (branches xs)) (sym c.items-in-Alt-right.ensures)) in
    (omega (arith, e, c.decreases), tt)

pub same_undeclared-returns-in-Alt-right : goal.same_undeclared-returns-in-Alt-right
same_undeclared-returns-in-Alt-right t c =
    let e = ap tree c.in-Alt.is ∙ tree-Alt c.in-Alt.alternatives ∙ ap (λ xs. alt (branches xs)) (sym c.items-in-Alt-right.ensures) in
    let d = ap tree c.in-Alt-right.is ∙ tree-Alt c.in-Alt-right.others ∙ ap (λ xs. alt (branches xs)) (sym c.items-in-Alt-right-2.ensures) in
    alt_alike _ _ _ _ _ e d c.same_branches.ensures
