use Rattle.std.proofs.Common.{sym, ◌∙◌, true≢false}
use Rattle.occ_law_shape.specs.occ_law.Instances.{sizes}
use Rattle.occ_syntax.specs.View.{branches, exp, tree, waiting}
use Rattle.occ_law_alt.proofs.Onlys.{split_guard, split_only}
use Rattle.occ_law_alt.proofs.Pieces.{split_inner, split_pieces}
use Rattle.occ_law_alt.proofs.right_placed.alt_split.Goals as goal

pub returns-in_default-alt_first : goal.returns-in_default-alt_first
returns-in_default-alt_first c = λ r d.
    let u = split_pieces (sizes c.args.place) (tree c.args.left.now) r (branches c.in-Some.found.front.now) (branches c.in-Some.found.rest.now)
    (exp c.in-Some.found.branch.now.0.condition) (waiting c.in-Some.found.branch.now.0.wait) (tree c.in-Some.found.branch.now.1) c.in-Some.ensures.0 c.in-Some.ensures.1 d in
    c.in_default-alt_first.ensures _ _ u.here

pub returns-in_default-divided : goal.returns-in_default-divided
returns-in_default-divided c = λ r d. c.in_default-divided.ensures _ _ _ _ (split_inner (branches c.in-Some.found.front.now)
    (exp c.in-Some.found.branch.now.0.condition) (waiting c.in-Some.found.branch.now.0.wait) (tree c.in-Some.found.branch.now.1) (branches c.in-Some.found.rest.now) (branches c.in-Some-alt_first.inner.now) (branches c.in-Some-alt_first.rest.now) r c.in-Some-alt_first.ensures
    (split_pieces (sizes c.args.place) (tree c.args.left.now) r (branches c.in-Some.found.front.now) (branches c.in-Some.found.rest.now)
    (exp c.in-Some.found.branch.now.0.condition) (waiting c.in-Some.found.branch.now.0.wait) (tree c.in-Some.found.branch.now.1) c.in-Some.ensures.0 c.in-Some.ensures.1 d)).0

pub returns-then-not-is_plain_event : goal.returns-then-not-is_plain_event
returns-then-not-is_plain_event c = λ r d.
    let u = split_pieces (sizes c.args.place) (tree c.args.left.now) r (branches c.in-Some.found.front.now) (branches c.in-Some.found.rest.now)
    (exp c.in-Some.found.branch.now.0.condition) (waiting c.in-Some.found.branch.now.0.wait) (tree c.in-Some.found.branch.now.1) c.in-Some.ensures.0 c.in-Some.ensures.1 d in
    true≢false (sym (c.is_plain_event.ensures.1 (u.plain, u.event)) ∙ c.if-not-is_plain_event.true)

pub returns-then-not-same_guard : goal.returns-then-not-same_guard
returns-then-not-same_guard c = λ r d. true≢false (sym (c.same_guard.ensures.1 (split_guard (branches c.in-Some.found.front.now) (exp c.in-Some.found.branch.now.0.condition) (exp c.in-Some-divided.next.now.0.condition)
    (waiting c.in-Some-divided.next.now.0.wait) (waiting c.in-Some.found.branch.now.0.wait) (tree c.in-Some.found.branch.now.1) (tree c.in-Some-divided.next.now.1) (branches c.in-Some.found.rest.now) (branches c.in-Some-alt_first.inner.now) (branches c.in-Some-alt_first.rest.now) _ r
    c.in-Some-alt_first.ensures c.in-Some-divided.ensures (split_pieces (sizes c.args.place) (tree c.args.left.now) r (branches c.in-Some.found.front.now) (branches c.in-Some.found.rest.now)
    (exp c.in-Some.found.branch.now.0.condition) (waiting c.in-Some.found.branch.now.0.wait) (tree c.in-Some.found.branch.now.1) c.in-Some.ensures.0 c.in-Some.ensures.1 d))) ∙ c.if-not-same_guard.true)

pub returns : goal.returns
returns c = split_only (sizes c.args.place) (tree c.args.left.now) _ (branches c.in-Some.found.front.now) (branches c.in-Some.found.rest.now) (branches c.in-Some-alt_first.inner.now) (branches c.in-Some-alt_first.rest.now) _
    (exp c.in-Some.found.branch.now.0.condition) (exp c.in-Some-divided.next.now.0.condition) (waiting c.in-Some-divided.next.now.0.wait) (waiting c.in-Some.found.branch.now.0.wait) (tree c.in-Some.found.branch.now.1) (tree c.in-Some-divided.next.now.1)
    c.in-Some.ensures.0 c.in-Some.ensures.1 c.in-Some-alt_first.ensures c.in-Some-divided.ensures (c.is_plain_event.ensures.0 c.if-not-is_plain_event.false)
    (c.same_guard.ensures.0 c.if-not-same_guard.false) c.in_ok-split_of.ensures
