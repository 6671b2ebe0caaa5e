use Rattle.std.proofs.Common.{sym, ◌∙◌, true≢false}
use Rattle.occ_law_shape.specs.occ_law.Instances.{sizes}
use Rattle.occ_syntax.specs.View.{branches, exp, tree, waiting}
use Rattle.occ_law_alt.proofs.Onlys.{put_is, same_only}
use Rattle.occ_law_alt.proofs.Pieces.{same_pieces}
use Rattle.occ_law_alt.proofs.between.alt_same.Goals as goal

pub returns-then-not-is_event : goal.returns-then-not-is_event
returns-then-not-is_event c = λ r d.
    let u = same_pieces (sizes c.args.place) (tree c.args.left.now) r (branches c.in-Some.found.front.now) (branches c.in-Some.found.middle.now) (branches c.in-Some.found.rest.now)
    (exp c.in-Some.found.first.now.0.condition) (exp c.in-Some.found.second.now.0.condition) (waiting c.in-Some.found.first.now.0.wait) (waiting c.in-Some.found.second.now.0.wait)
    (tree c.in-Some.found.first.now.1) (tree c.in-Some.found.second.now.1)
    c.in-Some.ensures.0 c.in-Some.ensures.1 d in
    true≢false (sym u.2 ∙ sym c.is_event.ensures ∙ c.if-not-is_event.true)

pub returns-then-not-same_guard : goal.returns-then-not-same_guard
returns-then-not-same_guard c = λ r d.
    let u = same_pieces (sizes c.args.place) (tree c.args.left.now) r (branches c.in-Some.found.front.now) (branches c.in-Some.found.middle.now) (branches c.in-Some.found.rest.now)
    (exp c.in-Some.found.first.now.0.condition) (exp c.in-Some.found.second.now.0.condition) (waiting c.in-Some.found.first.now.0.wait) (waiting c.in-Some.found.second.now.0.wait)
    (tree c.in-Some.found.first.now.1) (tree c.in-Some.found.second.now.1)
    c.in-Some.ensures.0 c.in-Some.ensures.1 d in
    true≢false (sym (c.same_guard.ensures.1 (u.0, u.1)) ∙ c.if-not-same_guard.true)

pub returns : goal.returns
returns c = same_only (sizes c.args.place) (tree c.args.left.now) _ (branches c.in-Some.found.front.now) (branches c.in-Some.found.middle.now) (branches c.in-Some.found.rest.now)
    (exp c.in-Some.found.first.now.0.condition) (exp c.in-Some.found.second.now.0.condition) (waiting c.in-Some.found.first.now.0.wait) (waiting c.in-Some.found.second.now.0.wait)
    (tree c.in-Some.found.first.now.1) (tree c.in-Some.found.second.now.1)
    c.in-Some.ensures.0 c.in-Some.ensures.1 (sym c.is_event.ensures ∙ c.if-not-is_event.false) (c.same_guard.ensures.0 c.if-not-same_guard.false)
    (c.in_ok-exchanged.ensures ∙ put_is (branches c.in-Some.found.front.now) (branches c.in-Some.found.middle.now) (branches c.in-Some.found.rest.now) (c.in_ok-copy.field-0, c.in_ok-choice.choice)
    _ _ _ c.in_ok-copy.ensures.condition c.in_ok-copy.ensures.wait c.in_ok-choice.ensures)
