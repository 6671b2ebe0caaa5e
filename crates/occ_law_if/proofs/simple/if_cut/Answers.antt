use Rattle.std.proofs.lemmas.Result.{IfOk-weaker}
use Rattle.occ_syntax.specs.Scopes.{environment}
use Rattle.occ_syntax.specs.View.{cases, tree}
use Rattle.occ_law_shape.proofs.Typed.{conditions_typed}
use Rattle.occ_law_if.proofs.Sides.{cut_law, kept_choices}
use Rattle.occ_law_if.proofs.simple.if_cut.Goals as goal

pub is_exhaustive-requires-clause-typed : goal.is_exhaustive-requires-clause-typed
is_exhaustive-requires-clause-typed c =
    conditions_typed (environment c.args.scope.now) (cases c.in-If-law_case-law_case.others.now)
    (kept_choices (environment c.args.scope.now) (cases c.in-If-law_case-law_case.others.now) (tree c.args.right.now) c.in-If-law_case-law_case.ensures c.requires.right)

pub returns-in-Some : goal.returns-in-Some
returns-in-Some c =
    IfOk-weaker _ _ _ (λ answer. cut_law c.args.scope.now (cases c.in-If-law_case.choices.now) (cases c.in-If-law_case-law_case.others.now) _ (tree c.args.left.now)
    (tree c.args.right.now) answer c.in-If-law_case.ensures c.in-If-law_case-law_case.ensures c.in-Some.ensures) c.is_exhaustive.ensures
