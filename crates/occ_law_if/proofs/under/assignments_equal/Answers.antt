use Rattle.std.proofs.lemmas.Result.{IfOk-weaker}
use Rattle.occ_syntax.specs.View.{exps, numbers, tree}
use Rattle.occ_syntax.proofs.Rows.{refuted}
use Rattle.occ_law_if.proofs.Processes.{assigns_never, sides_agree, sides_differ, sides_test}
use Rattle.occ_law_if.proofs.under.assignments_equal.Goals as goal

pub returns-then-not-same_names : goal.returns-then-not-same_names
returns-then-not-same_names g c =
    refuted (sides_differ (g.E.Equality.equals c.args.equality.now) (tree c.args.left.now) (tree c.args.right.now) (numbers c.in-Assign-law_case.vars.now)
    (numbers c.in-Assign-law_case-law_case.other_vars.now) (exps c.in-Assign-law_case.values.now) (exps c.in-Assign-law_case-law_case.others.now)
    c.in-Assign-law_case.ensures c.in-Assign-law_case-law_case.ensures (λ e. cc (c.same_names.ensures.1 e)))

pub each_equal-requires-clause-types : goal.each_equal-requires-clause-types
each_equal-requires-clause-types g c =
    sides_agree (g.E.Equality.environment c.args.equality.now) (tree c.args.left.now) (tree c.args.right.now) (numbers c.in-Assign-law_case.vars.now)
    (numbers c.in-Assign-law_case-law_case.other_vars.now) (exps c.in-Assign-law_case.values.now) (exps c.in-Assign-law_case-law_case.others.now)
    c.in-Assign-law_case.ensures c.in-Assign-law_case-law_case.ensures (c.same_names.ensures.0 c.if-not-same_names.false) c.requires.left c.requires.right

pub returns-else-not-same_names : goal.returns-else-not-same_names
returns-else-not-same_names g c =
    IfOk-weaker _ _ _ (λ answer. sides_test (g.E.Equality.equals c.args.equality.now) (tree c.args.left.now) (tree c.args.right.now) (numbers c.in-Assign-law_case.vars.now)
    (numbers c.in-Assign-law_case-law_case.other_vars.now) (exps c.in-Assign-law_case.values.now) (exps c.in-Assign-law_case-law_case.others.now) answer
    c.in-Assign-law_case.ensures c.in-Assign-law_case-law_case.ensures (c.same_names.ensures.0 c.if-not-same_names.false)) c.each_equal.ensures

pub returns-in_default-law_case : goal.returns-in_default-law_case
returns-in_default-law_case g c =
    refuted (assigns_never (g.E.Equality.equals c.args.equality.now) c.law_case-opened-2.result (tree c.args.left.now) (tree c.args.right.now) c.law_case-opened-2.ensures c.in_default-law_case.not-Assign)
