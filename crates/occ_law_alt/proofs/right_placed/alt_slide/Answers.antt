use Rattle.std.proofs.Common.{sym, ◌∙◌, true≢false}
use Rattle.occ_law_shape.specs.occ_law.Instances.{sizes}
use Rattle.occ_syntax.specs.View.{branches, tree}
use Rattle.occ_law_alt.proofs.Onlys.{empty_is, empty_not, slide_only}
use Rattle.occ_law_alt.proofs.Pieces.{slide_inner, slide_pieces}
use Rattle.occ_law_alt.proofs.right_placed.alt_slide.Goals as goal

pub returns-in_default-alt_first : goal.returns-in_default-alt_first
returns-in_default-alt_first c = λ r d.
    let u = slide_pieces (sizes c.args.place) (tree c.args.left.now) r (branches c.in-Some.found.front.now) (branches c.in-Some.found.rest.now) c.in-Some.ensures.0 c.in-Some.ensures.1 d in
    c.in_default-alt_first.ensures _ _ u.here

pub returns-then-not-is_empty : goal.returns-then-not-is_empty
returns-then-not-is_empty c = λ r d. empty_not c.in-Some-alt_first.rest.now c.is_empty.result c.is_empty.ensures c.if-not-is_empty.true
    (slide_inner (branches c.in-Some.found.front.now) (branches c.in-Some.found.rest.now) (branches c.in-Some-alt_first.inner.now) (branches c.in-Some-alt_first.rest.now) r c.in-Some-alt_first.ensures
    (slide_pieces (sizes c.args.place) (tree c.args.left.now) r (branches c.in-Some.found.front.now) (branches c.in-Some.found.rest.now) c.in-Some.ensures.0 c.in-Some.ensures.1 d)).1

pub returns-then-not-are_events : goal.returns-then-not-are_events
returns-then-not-are_events c = λ r d.
    let u = slide_pieces (sizes c.args.place) (tree c.args.left.now) r (branches c.in-Some.found.front.now) (branches c.in-Some.found.rest.now) c.in-Some.ensures.0 c.in-Some.ensures.1 d in
    true≢false (sym (c.are_events.ensures.1 u.events) ∙ c.if-not-are_events.true)

pub returns-in_default-behind : goal.returns-in_default-behind
returns-in_default-behind c = λ r d.
    let u = slide_pieces (sizes c.args.place) (tree c.args.left.now) r (branches c.in-Some.found.front.now) (branches c.in-Some.found.rest.now) c.in-Some.ensures.0 c.in-Some.ensures.1 d in
    c.in_default-behind.ensures u.more (slide_inner (branches c.in-Some.found.front.now) (branches c.in-Some.found.rest.now) (branches c.in-Some-alt_first.inner.now) (branches c.in-Some-alt_first.rest.now) r c.in-Some-alt_first.ensures u).0

pub returns : goal.returns
returns c = slide_only (sizes c.args.place) (tree c.args.left.now) _ (branches c.in-Some.found.front.now) (branches c.in-Some.found.rest.now) (branches c.in-Some-alt_first.inner.now) (branches c.in-Some-alt_first.rest.now) _
    c.in-Some.ensures.0 c.in-Some.ensures.1 c.in-Some-alt_first.ensures (empty_is c.in-Some-alt_first.rest.now c.is_empty.result c.is_empty.ensures c.if-not-is_empty.false)
    (c.are_events.ensures.0 c.if-not-are_events.false) c.in-Some-behind.ensures c.in_ok-alt_of_copies.ensures
