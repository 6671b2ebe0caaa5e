use Rattle.occ_syntax.specs.View.{exps, numbers, tree}
use Rattle.occ_law_seq.proofs.Ordering.{as_long, as_long_back, order_law, order_never, unequal}
use Rattle.occ_law_seq.proofs.assignment.assign_order.Goals as goal

pub returns-then-vars-other_vars : goal.returns-then-vars-other_vars
returns-then-vars-other_vars c = order_law (tree c.args.left.now) (tree c.args.right.now) (numbers c.in-Assign-law_case.vars.now) (numbers c.in-Assign-law_case-law_case.other_vars.now)
    (exps c.in-Assign-law_case.values.now) (exps c.in-Assign-law_case-law_case.other_values.now) _ c.requires.left c.requires.right c.in-Assign-law_case.ensures c.in-Assign-law_case-law_case.ensures
    (as_long _ _ c.if-vars-other_vars.true) c.are_among.ensures

pub returns-else-vars-other_vars : goal.returns-else-vars-other_vars
returns-else-vars-other_vars c = unequal _ _ c.if-vars-other_vars.false (order_never (tree c.args.left.now) (tree c.args.right.now)
    (numbers c.in-Assign-law_case.vars.now) (numbers c.in-Assign-law_case-law_case.other_vars.now) (exps c.in-Assign-law_case.values.now) (exps c.in-Assign-law_case-law_case.other_values.now)
    c.in-Assign-law_case.ensures c.in-Assign-law_case-law_case.ensures (λ e. c.if-vars-other_vars.false (as_long_back c.in-Assign-law_case.vars.now c.in-Assign-law_case-law_case.other_vars.now e)))
