use Rattle.std.proofs.Common.{◌-◌, ap, length, sym, take, ◌∙◌}
use Rattle.std.proofs.lemmas.Option.{MatchOption-at_some, MatchOption-at_none}
use Rattle.occ_meaning.specs.Parallel.{all_of}
use Rattle.occ_syntax.specs.View.{in_procs, tree, trees}
use Rattle.occ_norm_arrange.specs.Spread.{spread}
use Rattle.occ_norm_arrange.proofs.Reshaped.{reshaped_copy}
use Rattle.occ_norm_arrange.proofs.Listed.{last_place, trees_last}
use Rattle.occ_norm_arrange.proofs.FlatNoting.{known_none}
use Rattle.occ_norm_arrange.proofs.Spreading.{next_smaller, spread_first, spread_next}
use Rattle.occ_norm_arrange.proofs.flat.flat.Goals as goal

pub push_all-requires : goal.push_all-requires
push_all-requires c = known_none _ _ c.new-2.ensures

pub loop-spread-init : goal.loop-spread-init
loop-spread-init c =
    let ps = c.args.parts.now in
    let last = c.index-parts-front.result in
    let front = trees (take (length ps - 1) ps) in
    record {
      arranged = spread_first (trees ps) _ _ front (tree last)
          (trees_last ps (length ps - 1) last (last_place ps (sym c.is_empty.ensures ∙ c.if-is_empty.false)) c.index-parts-front.is)
          (c.in_ok-push_all.ensures.chans ∙ c.new.ensures)
          (c.in_ok-push_all.ensures.parts ∙ ap (λ xs. all_of (trees xs) front) c.new-2.ensures);
      known = c.in_ok-push_all.ensures.known;
    }

pub loop-spread-smaller : goal.loop-spread-smaller
loop-spread-smaller c = next_smaller _ _ _ _ _ _ (MatchOption-at_some _ _ c.in-Some.next c.in-Some.is c.in_ok-next.ensures.next)

pub loop-spread-preserved : goal.loop-spread-preserved
loop-spread-preserved c = record {
  arranged = spread_next _ _ _ _ _ _ _ c.loop-spread.invariant.arranged (MatchOption-at_some _ _ c.in-Some.next c.in-Some.is c.in_ok-next.ensures.next);
  known = c.in_ok-next.ensures.known;
}

pub returns : goal.returns
returns c =
    let now = c.next.new.self in
    let before = c.loop-spread.spread in
    let last = tree c.loop-spread.last.now in
    let same = MatchOption-at_none _ _ c.in_default.is c.in_ok-next.ensures.next in
    reshaped_copy _ _ _ c.loop-spread.invariant.arranged
    (c.in_ok-whole.ensures ∙ ap (λ ds. spread ds (trees (in_procs now.parts)) last) same.0 ∙ ap (λ ps. spread before.chans ps last) same.1)
