use Rattle.std.proofs.Common.{arith}
use Rattle.occ_law_alt.proofs.Cancelled.{found_at, never_there}
use Rattle.occ_law_alt.proofs.order.place_of.Goals as goal

pub returns-then-same_branch : goal.returns-then-same_branch
returns-then-same_branch c =
    (c.loop-place-test.true, found_at c.args.branch.now c.args.list.now c.loop-place.place c.index-list-place.result c.loop-place-test.true c.index-list-place.is (c.same_branch.ensures.0 c.if-same_branch.true))

pub returns : goal.returns
returns c = never_there c.args.branch.now c.args.list.now (λ k y i e same. c.loop-place.invariant k y (omega (arith, i, c.loop-place-test.false)) i e same)
