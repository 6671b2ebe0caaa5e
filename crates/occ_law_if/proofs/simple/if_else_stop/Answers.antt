use Rattle.occ_syntax.specs.View.{cases, tree}
use Rattle.occ_law_if.proofs.Sides.{else_law}
use Rattle.occ_law_if.proofs.simple.if_else_stop.Goals as goal

pub returns-in-Some : goal.returns-in-Some
returns-in-Some c =
    else_law (cases c.in-If-law_case.choices.now) (cases c.in-If-law_case-law_case.others.now) (cases c.in-Some.rest.now) (tree c.args.left.now) (tree c.args.right.now) _
    c.in-If-law_case.ensures c.in-If-law_case-law_case.ensures c.in-Some.ensures c.is_else_stop.ensures
