use Rattle.std.proofs.lemmas.Result.{IfOk-weaker}
use Rattle.occ_syntax.specs.Scopes.{environment}
use Rattle.occ_syntax.specs.View.{cases, tree}
use Rattle.occ_syntax.proofs.Rows.{refuted}
use Rattle.occ_law_shape.proofs.Typed.{conditions_typed}
use Rattle.occ_law_if.proofs.Sides.{copy_law, copy_never, kept_choices}
use Rattle.occ_law_if.proofs.simple.if_copy.Goals as goal

pub returns-then-not-are_copies : goal.returns-then-not-are_copies
returns-then-not-are_copies c =
    refuted (copy_never c.args.scope.now (cases c.in-If-shape.choices.now) (tree c.args.left.now) (tree c.args.right.now) c.in-If-shape.ensures (λ e. cc (c.are_copies.ensures.1 e)))

pub is_exhaustive-requires-clause-typed : goal.is_exhaustive-requires-clause-typed
is_exhaustive-requires-clause-typed c =
    conditions_typed (environment c.args.scope.now) (cases c.in-If-shape.choices.now)
    (kept_choices (environment c.args.scope.now) (cases c.in-If-shape.choices.now) (tree c.args.right.now) c.in-If-shape.ensures c.requires.right)

pub returns-else-not-are_copies : goal.returns-else-not-are_copies
returns-else-not-are_copies c =
    IfOk-weaker _ _ _ (λ answer. copy_law c.args.scope.now (cases c.in-If-shape.choices.now) (tree c.args.left.now) (tree c.args.right.now) answer c.in-If-shape.ensures
    (c.are_copies.ensures.0 c.if-not-are_copies.false)) c.is_exhaustive.ensures
