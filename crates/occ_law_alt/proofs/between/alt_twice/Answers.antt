use Rattle.std.proofs.Common.{sym, ◌∙◌, true≢false}
use Rattle.occ_law_shape.specs.occ_law.Instances.{sizes}
use Rattle.occ_syntax.specs.View.{branches, exp, tree, waiting}
use Rattle.occ_law_alt.proofs.Onlys.{put_is, twice_only}
use Rattle.occ_law_alt.proofs.Pieces.{twice_pieces}
use Rattle.occ_law_alt.proofs.between.alt_twice.Goals as goal

pub returns-then-not-same_branch : goal.returns-then-not-same_branch
returns-then-not-same_branch c = λ r d.
    let u = twice_pieces (sizes c.args.place) (tree c.args.left.now) r (branches c.in-Some.found.front.now) (branches c.in-Some.found.middle.now) (branches c.in-Some.found.rest.now)
    (exp c.in-Some.found.first.now.0.condition) (exp c.in-Some.found.second.now.0.condition) (waiting c.in-Some.found.first.now.0.wait) (waiting c.in-Some.found.second.now.0.wait)
    (tree c.in-Some.found.first.now.1) (tree c.in-Some.found.second.now.1)
    c.in-Some.ensures.0 c.in-Some.ensures.1 d in
    true≢false (sym (c.same_branch.ensures.1 (u.0, u.1, u.2)) ∙ c.if-not-same_branch.true)

pub returns : goal.returns
returns c = twice_only (sizes c.args.place) (tree c.args.left.now) _ (branches c.in-Some.found.front.now) (branches c.in-Some.found.middle.now) (branches c.in-Some.found.rest.now)
    (exp c.in-Some.found.first.now.0.condition) (exp c.in-Some.found.second.now.0.condition) (waiting c.in-Some.found.first.now.0.wait) (waiting c.in-Some.found.second.now.0.wait)
    (tree c.in-Some.found.first.now.1) (tree c.in-Some.found.second.now.1)
    c.in-Some.ensures.0 c.in-Some.ensures.1 (c.same_branch.ensures.0 c.if-not-same_branch.false)
    (c.in_ok-exchanged.ensures ∙ put_is (branches c.in-Some.found.front.now) (branches c.in-Some.found.middle.now) (branches c.in-Some.found.rest.now) c.in_ok-kept.kept _ _ _ c.in_ok-kept.ensures.0 c.in_ok-kept.ensures.1 c.in_ok-kept.ensures.2)
