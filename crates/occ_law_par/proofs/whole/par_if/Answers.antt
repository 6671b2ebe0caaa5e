use Rattle.std.proofs.Common.{ap, ◌∙◌}
use Rattle.occ_syntax.specs.Scopes.{environment}
use Rattle.occ_syntax.specs.Tree.{select}
use Rattle.occ_syntax.specs.View.{cases, tree}
use Rattle.occ_law_shape.specs.occ_law.Instances.{sizes}
use Rattle.occ_law_par.proofs.Rights.{conditions_kept, if_is, if_never, if_only}
use Rattle.occ_law_par.proofs.whole.par_if.Goals as goal

pub returns-in_default-choices_of : goal.returns-in_default-choices_of
returns-in_default-choices_of c = if_never c.args.scope.now (sizes c.args.place) (tree c.args.left.now) (tree c.in-Some.first.now) (tree c.in-Some.second.now) c.in-Some.ensures c.in_default-choices_of.ensures

pub is_exhaustive-requires-clause-typed : goal.is_exhaustive-requires-clause-typed
is_exhaustive-requires-clause-typed c =
    conditions_kept (environment c.args.scope.now) (sizes c.args.place) (tree c.args.left.now) (tree c.in-Some.first.now) (tree c.in-Some.second.now) (cases c.in-Some-choices_of.choices.now) c.requires.left
    c.in-Some.ensures c.in-Some-choices_of.ensures

pub returns-then-not-is_enough : goal.returns-then-not-is_enough
returns-then-not-is_enough c = λ r h.
    let k = if_only c.args.scope.now (sizes c.args.place) (tree c.args.left.now) (tree c.in-Some.first.now) (tree c.in-Some.second.now) r (cases c.in-Some-choices_of.choices.now) c.in-Some.ensures
    c.in-Some-choices_of.ensures h in
    cc (c.in_ok-is_enough.ensures.1 (k.1, k.2))

pub returns : goal.returns
returns c =
    if_is c.args.scope.now (sizes c.args.place) (tree c.args.left.now) (tree c.in-Some.first.now) (tree c.in-Some.second.now) (tree c.if_of.result) (cases c.in-Some-choices_of.choices.now) c.in-Some.ensures
    c.in-Some-choices_of.ensures (c.in_ok-is_enough.ensures.0 c.if-not-is_enough.false) (c.if_of.ensures ∙ ap select c.in_ok-made.ensures)
