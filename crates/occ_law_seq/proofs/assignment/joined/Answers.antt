use Rattle.occ_syntax.specs.View.{exps, numbers, tree}
use Rattle.occ_law_seq.proofs.Assigning.{join_law}
use Rattle.occ_law_seq.proofs.assignment.joined.Goals as goal

pub returns-in-Assign-law_case-law_case : goal.returns-in-Assign-law_case-law_case
returns-in-Assign-law_case-law_case c = join_law (tree c.args.second.now) (tree c.args.right.now) (numbers c.args.pairs.now.vars.now) (numbers c.in-Assign-law_case.vars.now)
    (numbers c.in-Assign-law_case-law_case.other_vars.now) (exps c.args.pairs.now.values.now) (exps c.in-Assign-law_case.values.now) (exps c.in-Assign-law_case-law_case.other_values.now) _
    c.in-Assign-law_case.ensures c.in-Assign-law_case-law_case.ensures c.is_joined.ensures
