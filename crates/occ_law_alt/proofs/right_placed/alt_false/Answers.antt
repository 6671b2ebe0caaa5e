use Rattle.std.proofs.Common.{sym, ◌∙◌, true≢false}
use Rattle.occ_syntax.specs.Scopes.{environment}
use Rattle.occ_law_shape.specs.occ_law.Instances.{sizes}
use Rattle.occ_syntax.specs.View.{branches, exp, tree, waiting}
use Rattle.occ_law_alt.proofs.Onlys.{chosen_typed, false_asked, false_only}
use Rattle.occ_law_alt.proofs.right_placed.alt_false.Goals as goal

pub is_never-requires-clause-typed : goal.is_never-requires-clause-typed
is_never-requires-clause-typed c = chosen_typed (environment c.args.scope.now) (tree c.args.left.now) (branches c.in-Some.found.front.now) (branches c.in-Some.found.rest.now)
    (exp c.in-Some.found.branch.now.0.condition) (waiting c.in-Some.found.branch.now.0.wait) (tree c.in-Some.found.branch.now.1) c.in-Some.ensures.0 c.requires.left

pub returns-then-not-never : goal.returns-then-not-never
returns-then-not-never c = λ r d. true≢false (sym (c.in_ok-never.ensures.1 (false_asked c.args.scope.now (sizes c.args.place) (tree c.args.left.now) r (branches c.in-Some.found.front.now) (branches c.in-Some.found.rest.now)
    (exp c.in-Some.found.branch.now.0.condition) (waiting c.in-Some.found.branch.now.0.wait) (tree c.in-Some.found.branch.now.1) c.in-Some.ensures.0 c.in-Some.ensures.1 d)) ∙ c.if-not-never.true)

pub returns : goal.returns
returns c = false_only c.args.scope.now (sizes c.args.place) (tree c.args.left.now) _ (branches c.in-Some.found.front.now) (branches c.in-Some.found.rest.now)
    (exp c.in-Some.found.branch.now.0.condition) (waiting c.in-Some.found.branch.now.0.wait) (tree c.in-Some.found.branch.now.1) c.in-Some.ensures.0 c.in-Some.ensures.1
    (c.in_ok-never.ensures.0 c.if-not-never.false) c.in_ok-joined.ensures
