use Rattle.std.proofs.Common.{ap, ◌∙◌}
use Rattle.occ_syntax.specs.Scopes.{environment}
use Rattle.occ_syntax.specs.Tree.{select}
use Rattle.occ_syntax.specs.View.{cases, tree}
use Rattle.occ_law_shape.specs.occ_law.Instances.{sizes}
use Rattle.occ_law_if.proofs.Parting.{front_typed}
use Rattle.occ_law_if.proofs.Rights.{cut_is, cut_only}
use Rattle.occ_law_if.proofs.right_placed.if_cut.Goals as goal

pub is_exhaustive-requires-clause-typed : goal.is_exhaustive-requires-clause-typed
is_exhaustive-requires-clause-typed c = front_typed (environment c.args.scope.now) (sizes c.args.place) (tree c.args.left.now) (cases c.in-Some.at.before.now) (cases c.in-Some.at.rest.now) c.in-Some.ensures c.requires.left

pub returns-then-not-is_enough : goal.returns-then-not-is_enough
returns-then-not-is_enough c = λ r h.
    let k = cut_only c.args.scope.now (sizes c.args.place) (tree c.args.left.now) (cases c.in-Some.at.before.now) (cases c.in-Some.at.rest.now) r c.in-Some.ensures h in
    cc (c.in_ok-is_enough.ensures.1 (k.1, k.2))

pub returns : goal.returns
returns c =
    cut_is c.args.scope.now (sizes c.args.place) (tree c.args.left.now) (cases c.in-Some.at.before.now) (cases c.in-Some.at.rest.now) (tree c.if_of.result) c.in-Some.ensures
    (c.in_ok-is_enough.ensures.0 c.if-not-is_enough.false) (c.if_of.ensures ∙ ap select c.in_ok-made.ensures)
