use Rattle.std.proofs.lemmas.Result.{IfOk-weaker}
use Rattle.occ_syntax.specs.Scopes.{environment}
use Rattle.occ_syntax.specs.View.{branches, cases, exp, exps, numbers, tree}
use Rattle.occ_law_seq.proofs.EqualSides.{expr_alt, expr_assign, expr_if, expr_output, right_sides_agree, same_unless}
use Rattle.occ_law_seq.proofs.Here.{through}
use Rattle.occ_law_seq.proofs.expressions.expr.Goals as goal

pub each_equal-requires-clause-types : goal.each_equal-requires-clause-types
each_equal-requires-clause-types c = right_sides_agree (environment c.args.scope.now) (tree c.args.left.now) (tree c.args.right.now) (numbers c.in-Assign.vars.now) (numbers c.in-Assign-shape.other_vars.now)
    (exps c.in-Assign.values.now) (exps c.in-Assign-shape.others.now) c.in-Assign.ensures c.in-Assign-shape.ensures (c.same_names.ensures.0 c.if-not-same_names.false)
    c.requires.left.types c.requires.right.types

pub returns-else-not-same_names : goal.returns-else-not-same_names
returns-else-not-same_names c = IfOk-weaker _ _ _ (λ answer test. through test
    (expr_assign c.args.scope.now (tree c.args.left.now) (tree c.args.right.now) (numbers c.in-Assign.vars.now) (numbers c.in-Assign-shape.other_vars.now)
    (exps c.in-Assign.values.now) (exps c.in-Assign-shape.others.now) c.in-Assign.ensures c.in-Assign-shape.ensures (c.same_names.ensures.0 c.if-not-same_names.false))) c.each_equal.ensures

pub returns-else-ne : goal.returns-else-ne
returns-else-ne c = IfOk-weaker _ _ _ (λ answer test. through test
    (expr_output c.args.scope.now (tree c.args.left.now) (tree c.args.right.now) c.in-Output.chan.0 c.in-Output-shape.other_chan.0 (exp c.in-Output.value.now) (exp c.in-Output-shape.other.now)
    c.in-Output.ensures c.in-Output-shape.ensures (same_unless _ _ _ c.ne.ensures c.if-ne.false))) c.holds.ensures

pub returns-in-If-shape : goal.returns-in-If-shape
returns-in-If-shape c = IfOk-weaker _ _ _ (λ answer test. through test
    (expr_if c.args.scope.now (tree c.args.left.now) (tree c.args.right.now) (cases c.in-If.choices.now) (cases c.in-If-shape.others.now) c.in-If.ensures c.in-If-shape.ensures)) c.cases_equal.ensures

pub returns-in-Alt-shape : goal.returns-in-Alt-shape
returns-in-Alt-shape c = IfOk-weaker _ _ _ (λ answer test. through test
    (expr_alt c.args.scope.now (tree c.args.left.now) (tree c.args.right.now) (branches c.in-Alt.alternatives.now) (branches c.in-Alt-shape.others.now) c.in-Alt.ensures c.in-Alt-shape.ensures)) c.branches_equal.ensures
