use Rattle.std.proofs.lemmas.Result.{IfOk-weaker}
use Rattle.occ_syntax.specs.View.{branches, tree, trees}
use Rattle.occ_law_seq.proofs.Followers.{alt_law}
use Rattle.occ_law_seq.proofs.Here.{through}
use Rattle.occ_law_seq.proofs.behind.alt_behind.Goals as goal

pub returns-in-Alt-law_case-law_case : goal.returns-in-Alt-law_case-law_case
returns-in-Alt-law_case-law_case c = IfOk-weaker _ _ _ (λ answer test. through test
    (alt_law (tree c.args.first.now) (tree c.args.right.now) (branches c.in-Alt-law_case.alternatives.now) (branches c.in-Alt-law_case-law_case.others.now) (trees c.args.behind.now)
    c.in-Alt-law_case.ensures c.in-Alt-law_case-law_case.ensures)) c.are_branch_pieces.ensures
