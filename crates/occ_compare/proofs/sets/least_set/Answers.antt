use Rattle.std.proofs.Common.{MatchOption, subst}
use Rattle.occ_compare.specs.Steps.{AllIn, IsLeastOnly}
use Rattle.occ_compare.proofs.Searching.{side_chosen}
use Rattle.occ_compare.proofs.sets.least_set.Goals as goal

pub returns-in-Some-Some : goal.returns-in-Some-Some
returns-in-Some-Some c =
    let first = subst (λ o. MatchOption o (AllIn c.args.a.now c.args.b.now) (λ list. IsLeastOnly c.args.params.now c.args.a.now c.args.b.now list.items)) c.in-Some-Some.is-0 c.in_ok-first.ensures in
    let second = subst (λ o. MatchOption o (AllIn c.args.b.now c.args.a.now) (λ list. IsLeastOnly c.args.params.now c.args.b.now c.args.a.now list.items)) c.in-Some-Some.is-1 c.in_ok-second.ensures in
    side_chosen c.args.params.now c.args.a.now c.args.b.now c.in-Some-Some.first.items c.in-Some-Some.second.items c.lesser_side.result.events.items c.lesser_side.result.only first second c.lesser_side.ensures.events c.lesser_side.ensures.less
