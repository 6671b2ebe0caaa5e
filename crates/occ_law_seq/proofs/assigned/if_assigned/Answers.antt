use Rattle.std.proofs.lemmas.Result.{IfOk-weaker}
use Rattle.occ_syntax.specs.View.{cases, exps, numbers, tree}
use Rattle.occ_law_seq.proofs.Assigning.{if_assigned_law}
use Rattle.occ_law_seq.proofs.Here.{through}
use Rattle.occ_law_seq.proofs.assigned.if_assigned.Goals as goal

pub returns-in-If-law_case-law_case : goal.returns-in-If-law_case-law_case
returns-in-If-law_case-law_case c = IfOk-weaker _ _ _ (λ answer test. through test
    (if_assigned_law (tree c.args.second.now) (tree c.args.right.now) (numbers c.args.pairs.now.vars.now) (exps c.args.pairs.now.values.now)
    (cases c.in-If-law_case.choices.now) (cases c.in-If-law_case-law_case.others.now) c.in-If-law_case.ensures c.in-If-law_case-law_case.ensures)) c.are_choice_pieces.ensures
