use Rattle.std.proofs.lemmas.Result.{IfOk-weaker}
use Rattle.occ_syntax.specs.Scopes.{environment}
use Rattle.occ_syntax.specs.View.{cases, tree}
use Rattle.occ_syntax.proofs.Rows.{refuted}
use Rattle.occ_law_par.proofs.Choosing.{conditions_kept, if_law, if_never}
use Rattle.occ_law_par.proofs.choices.par_if.Goals as goal

pub returns-then-not-are_pieces : goal.returns-then-not-are_pieces
returns-then-not-are_pieces c = refuted (if_never c.args.scope.now (tree c.args.left.now) (tree c.args.right.now) (tree c.in-Some.first.now) (tree c.in-Some.second.now)
    (cases c.in-Some-choices_of.choices.now) (cases c.in-Some-choices_of-2.others.now) c.in-Some.ensures c.in-Some-choices_of.ensures c.in-Some-choices_of-2.ensures
    (λ e. cc (c.in_ok-are_pieces.ensures.1 e)))

pub is_exhaustive-requires-clause-typed : goal.is_exhaustive-requires-clause-typed
is_exhaustive-requires-clause-typed c = conditions_kept (environment c.args.scope.now) (tree c.args.left.now) (tree c.in-Some.first.now) (tree c.in-Some.second.now)
    (cases c.in-Some-choices_of.choices.now) c.requires.left c.in-Some.ensures c.in-Some-choices_of.ensures

pub returns : goal.returns
returns c = IfOk-weaker _ _ _ (λ answer test. if_law c.args.scope.now (tree c.args.left.now) (tree c.args.right.now) (tree c.in-Some.first.now) (tree c.in-Some.second.now)
    (cases c.in-Some-choices_of.choices.now) (cases c.in-Some-choices_of-2.others.now) answer c.in-Some.ensures c.in-Some-choices_of.ensures c.in-Some-choices_of-2.ensures
    (c.in_ok-are_pieces.ensures.0 c.if-not-are_pieces.false) test) c.is_exhaustive.ensures
