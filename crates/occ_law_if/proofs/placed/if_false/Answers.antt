use Rattle.std.proofs.lemmas.Result.{IfOk-weaker}
use Rattle.occ_syntax.specs.Scopes.{environment}
use Rattle.occ_syntax.specs.View.{cases, tree}
use Rattle.occ_law_if.proofs.Joins.{false_placed}
use Rattle.occ_law_if.proofs.Parted.{through}
use Rattle.occ_law_if.proofs.Sides.{kept_choices}
use Rattle.occ_law_if.proofs.placed.if_false.Goals as goal

pub returns-in-If-law_case-law_case : goal.returns-in-If-law_case-law_case
returns-in-If-law_case-law_case c =
    IfOk-weaker _ _ _ (λ answer test. through test (false_placed c.args.scope.now (cases c.in-If-law_case.choices.now) (cases c.in-If-law_case-law_case.others.now) (tree c.args.left.now)
    (tree c.args.right.now) c.in-If-law_case.ensures c.in-If-law_case-law_case.ensures)) c.somewhere.ensures

pub somewhere-requires : goal.somewhere-requires
somewhere-requires c =
    (c.requires.scope, kept_choices (environment c.args.scope.now) (cases c.in-If-law_case.choices.now) (tree c.args.left.now) c.in-If-law_case.ensures c.requires.left)
