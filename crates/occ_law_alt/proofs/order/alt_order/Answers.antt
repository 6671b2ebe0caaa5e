use Rattle.std.proofs.lemmas.Result.{IfOk-weaker}
use Rattle.occ_syntax.specs.View.{branches, tree}
use Rattle.occ_law_alt.proofs.Begun.{through}
use Rattle.occ_law_alt.proofs.Ended.{order_law}
use Rattle.occ_law_alt.proofs.order.alt_order.Goals as goal

pub returns-in-Alt-law_case-law_case : goal.returns-in-Alt-law_case-law_case
returns-in-Alt-law_case-law_case c = IfOk-weaker _ _ _ (λ answer test. through test
    (order_law (branches c.in-Alt-law_case.alternatives.now) (branches c.in-Alt-law_case-law_case.others.now) (tree c.args.left.now) (tree c.args.right.now)
    c.in-Alt-law_case.ensures c.in-Alt-law_case-law_case.ensures)) c.are_reordered.ensures
