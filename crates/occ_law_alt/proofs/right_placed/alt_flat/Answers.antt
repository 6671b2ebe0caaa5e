use Rattle.std.proofs.Common.{sym, ◌∙◌, true≢false}
use Rattle.occ_law_shape.specs.occ_law.Instances.{sizes}
use Rattle.occ_syntax.specs.View.{branches, tree}
use Rattle.occ_law_alt.proofs.Onlys.{flat_only}
use Rattle.occ_law_alt.proofs.Pieces.{flat_inner, flat_pieces}
use Rattle.occ_law_alt.proofs.right_placed.alt_flat.Goals as goal

pub returns-in_default-alt_first : goal.returns-in_default-alt_first
returns-in_default-alt_first c = λ r d.
    let u = flat_pieces (sizes c.args.place) (tree c.args.left.now) r (branches c.in-Some.found.front.now) (branches c.in-Some.found.rest.now) c.in-Some.ensures.0 c.in-Some.ensures.1 d in
    c.in_default-alt_first.ensures u.inner u.rest u.here

pub returns-then-not-has_skip : goal.returns-then-not-has_skip
returns-then-not-has_skip c = λ r d. true≢false (sym (c.has_skip.ensures.1 (flat_inner (branches c.in-Some.found.front.now) (branches c.in-Some.found.rest.now) (branches c.in-Some-alt_first.inner.now) (branches c.in-Some-alt_first.rest.now) r c.in-Some-alt_first.ensures
    (flat_pieces (sizes c.args.place) (tree c.args.left.now) r (branches c.in-Some.found.front.now) (branches c.in-Some.found.rest.now) c.in-Some.ensures.0 c.in-Some.ensures.1 d)).0) ∙ c.if-not-has_skip.true)

pub returns : goal.returns
returns c = flat_only (sizes c.args.place) (tree c.args.left.now) _ (branches c.in-Some.found.front.now) (branches c.in-Some.found.rest.now) (branches c.in-Some-alt_first.inner.now) (branches c.in-Some-alt_first.rest.now) c.in-Some.ensures.0 c.in-Some.ensures.1
    c.in-Some-alt_first.ensures (c.has_skip.ensures.0 c.if-not-has_skip.false) c.in_ok-linked.ensures
