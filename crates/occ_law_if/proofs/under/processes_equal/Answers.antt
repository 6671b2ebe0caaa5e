use Rattle.std.proofs.lemmas.Result.{IfOk-weaker}
use Rattle.occ_syntax.specs.View.{branches, tree, trees}
use Rattle.occ_law_if.proofs.Processes.{assignments_test, branches_test, seqs_test}
use Rattle.occ_law_if.proofs.under.processes_equal.Goals as goal

pub returns-in-Assign : goal.returns-in-Assign
returns-in-Assign g c =
    IfOk-weaker _ _ _ (λ answer. assignments_test (g.E.Equality.equals c.args.equality.now) (tree c.args.left.now) (tree c.args.right.now) _ _ answer c.in-Assign.ensures)
    c.assignments_equal.ensures

pub returns-in-Alt-shape : goal.returns-in-Alt-shape
returns-in-Alt-shape g c =
    IfOk-weaker _ _ _ (λ answer. branches_test (g.E.Equality.equals c.args.equality.now) (tree c.args.left.now) (tree c.args.right.now) (branches c.in-Alt.alternatives.now)
    (branches c.in-Alt-shape.others.now) answer c.in-Alt.ensures c.in-Alt-shape.ensures) c.branches_equal.ensures

pub returns-in-Seq-shape : goal.returns-in-Seq-shape
returns-in-Seq-shape g c =
    IfOk-weaker _ _ _ (λ answer. seqs_test (g.E.Equality.equals c.args.equality.now) (tree c.args.left.now) (tree c.args.right.now) (trees c.in-Seq.parts.now)
    (trees c.in-Seq-shape.others.now) answer c.in-Seq.ensures c.in-Seq-shape.ensures) c.beginnings_equal.ensures
