use Rattle.std.proofs.Common.{◌≡◌, ◌+◌, false, true, Some, MatchOption, take, sym, ap, ◌∙◌, subst, rules}
use Rattle.occ_compare.specs.Orders.{IsListOf, has_set}
use Rattle.occ_compare.specs.Steps.{AllIn, IsLeastOnly}
use Rattle.occ_compare.proofs.Searching.{best_kept, best_more, listed_again}
use Rattle.occ_compare.proofs.sets.least_only.Goals as goal
use Rattle.occ_compare.proofs.sets.least_only.Goals.{then-not-is_among+in_ok-events, else-not-is_among}

pub loop-set-preserved : goal.loop-set-preserved
loop-set-preserved c = elim c.if-not-is_among.branch [
  | then-not-is_among+in_ok-events w ↦
      let out : has_set c.args.other.now c.set-item.result ≡ false = sym c.is_among.ensures ∙ w.if-not-is_among.true in
      let listed : IsListOf c.args.params.now c.set-item.result w.in_order-events.result.items = listed_again c.args.params.now c.set-item.result _ w.in_order-events.result.items (w.in_ok-events.ensures.items ∙ w.items.ensures.items) w.in_order-events.ensures in
      let more = best_more (λ v. v.items) c.args.params.now c.args.own.now c.args.other.now c.loop-set.set-index c.set-item.result c.loop-set-test.true c.set-item.is c.loop-set.best w.in_order-events.result w.lesser.result
      out listed w.lesser.ensures c.loop-set.invariant in
      subst (λ best. MatchOption best (AllIn (take (c.loop-set.set-index + 1) c.args.own.now) c.args.other.now) (λ list. IsLeastOnly c.args.params.now (take (c.loop-set.set-index + 1) c.args.own.now) c.args.other.now list.items)) (sym w.best-is) more
  | else-not-is_among w ↦
      let there : has_set c.args.other.now c.set-item.result ≡ true = sym c.is_among.ensures ∙ w.if-not-is_among.false in
      let kept = best_kept (λ v. v.items) c.args.params.now c.args.own.now c.args.other.now c.loop-set.set-index c.set-item.result c.loop-set-test.true c.set-item.is c.loop-set.best there c.loop-set.invariant in
      subst (λ best. MatchOption best (AllIn (take (c.loop-set.set-index + 1) c.args.own.now) c.args.other.now) (λ list. IsLeastOnly c.args.params.now (take (c.loop-set.set-index + 1) c.args.own.now) c.args.other.now list.items)) (sym w.best-is) kept
]
