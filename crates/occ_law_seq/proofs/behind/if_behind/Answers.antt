use Rattle.std.proofs.lemmas.Result.{IfOk-weaker}
use Rattle.occ_syntax.specs.View.{cases, tree, trees}
use Rattle.occ_law_seq.proofs.Followers.{if_law}
use Rattle.occ_law_seq.proofs.Here.{through}
use Rattle.occ_law_seq.proofs.behind.if_behind.Goals as goal

pub returns-in-If-law_case-law_case : goal.returns-in-If-law_case-law_case
returns-in-If-law_case-law_case c = IfOk-weaker _ _ _ (λ answer test. through test
    (if_law (tree c.args.first.now) (tree c.args.right.now) (cases c.in-If-law_case.choices.now) (cases c.in-If-law_case-law_case.others.now) (trees c.args.behind.now)
    c.in-If-law_case.ensures c.in-If-law_case-law_case.ensures)) c.are_choice_pieces.ensures
