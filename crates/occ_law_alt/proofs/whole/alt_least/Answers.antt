use Rattle.std.proofs.Common.{sym, ◌∙◌, true≢false}
use Rattle.occ_law_shape.specs.occ_law.Instances.{sizes}
use Rattle.occ_syntax.specs.View.{branches, tree}
use Rattle.occ_law_alt.proofs.Onlys.{least_more, least_only}
use Rattle.occ_law_alt.proofs.whole.alt_least.Goals as goal

pub returns-then-not-are_plain_events-2 : goal.returns-then-not-are_plain_events-2
returns-then-not-are_plain_events-2 c = λ r d. true≢false (sym (c.are_plain_events-2.ensures.1
    (least_more (sizes c.args.place) (tree c.args.left.now) r (branches c.in-Some.alternatives.now) (branches c.in-Some-alt_pair.less.now) (branches c.in-Some-alt_pair.whole.now) (branches c.in-Some-behind.more.now)
    c.in-Some.ensures c.in-Some-alt_pair.ensures c.in-Some-behind.ensures d)) ∙ c.if-not-are_plain_events-2.true)

pub returns : goal.returns
returns c = least_only (sizes c.args.place) (tree c.args.left.now) _ (branches c.in-Some.alternatives.now) (branches c.in-Some-alt_pair.less.now) (branches c.in-Some-alt_pair.whole.now) (branches c.in-Some-behind.more.now)
    (c.is_whole.ensures.0 c.if-not-is_whole.false) c.in-Some.ensures c.in-Some-alt_pair.ensures c.in-Some-behind.ensures
    (c.are_plain_events.ensures.0 c.if-not-are_plain_events.false) (c.are_plain_events-2.ensures.0 c.if-not-are_plain_events-2.false) c.in_ok-least_of.ensures
