use Rattle.occ_syntax.specs.View.{exps, numbers, tree}
use Rattle.occ_law_seq.proofs.Assigning.{id_law}
use Rattle.occ_law_seq.proofs.assignment.assign_id.Goals as goal

pub returns-in-Skip-law_case : goal.returns-in-Skip-law_case
returns-in-Skip-law_case c = id_law (tree c.args.left.now) (tree c.args.right.now) (numbers c.in-Assign-law_case.vars.now) (exps c.in-Assign-law_case.values.now) _
    c.in-Assign-law_case.ensures c.in-Skip-law_case.ensures c.are_variables.ensures
