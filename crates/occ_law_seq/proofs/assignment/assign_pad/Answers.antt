use Rattle.occ_syntax.specs.View.{exps, numbers, tree}
use Rattle.occ_law_seq.proofs.Assigning.{pad_law}
use Rattle.occ_law_seq.proofs.assignment.assign_pad.Goals as goal

pub returns-in-Assign-law_case-law_case : goal.returns-in-Assign-law_case-law_case
returns-in-Assign-law_case-law_case c = pad_law (tree c.args.left.now) (tree c.args.right.now) (numbers c.in-Assign-law_case.vars.now) (numbers c.in-Assign-law_case-law_case.other_vars.now)
    (exps c.in-Assign-law_case.values.now) (exps c.in-Assign-law_case-law_case.other_values.now) _ c.in-Assign-law_case.ensures c.in-Assign-law_case-law_case.ensures c.is_padded.ensures
