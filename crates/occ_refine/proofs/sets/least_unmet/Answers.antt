use Rattle.std.proofs.Common.{◌≡◌, ◌+◌, false, true, MatchOption, take, sym, ◌∙◌, subst}
use Rattle.occ_norm.specs.occ_compare.Orders.{IsListOf}
use Rattle.occ_norm.proofs.from_compare.Searching.{listed_again}
use Rattle.occ_refine.specs.Rows.{is_met, AllMet, IsLeastUnmet}
use Rattle.occ_refine.proofs.Least.{best_kept, best_more}
use Rattle.occ_refine.proofs.sets.least_unmet.Goals as goal
use Rattle.occ_refine.proofs.sets.least_unmet.Goals.{then-not-is_met+in_ok-events, else-not-is_met}

pub loop-set-preserved : goal.loop-set-preserved
loop-set-preserved c = elim c.if-not-is_met.branch [
  | then-not-is_met+in_ok-events w ↦
      let out : is_met c.args.other.now c.set-item.result ≡ false = sym c.is_met.ensures ∙ w.if-not-is_met.true in
      let listed : IsListOf c.args.params.now c.set-item.result w.in_order-events.result.items = listed_again c.args.params.now c.set-item.result _ w.in_order-events.result.items (w.in_ok-events.ensures.items ∙ w.items.ensures.items) w.in_order-events.ensures in
      let more = best_more (λ v. v.items) c.args.params.now c.args.own.now (is_met c.args.other.now) c.loop-set.set-index c.set-item.result c.loop-set-test.true c.set-item.is c.loop-set.best w.in_order-events.result w.lesser.result
      out listed w.lesser.ensures c.loop-set.invariant in
      subst (λ best. MatchOption best (AllMet (take (c.loop-set.set-index + 1) c.args.own.now) (is_met c.args.other.now)) (λ list. IsLeastUnmet c.args.params.now (take (c.loop-set.set-index + 1) c.args.own.now) (is_met c.args.other.now) list.items)) (sym w.best-is) more
  | else-not-is_met w ↦
      let there : is_met c.args.other.now c.set-item.result ≡ true = sym c.is_met.ensures ∙ w.if-not-is_met.false in
      let kept = best_kept (λ v. v.items) c.args.params.now c.args.own.now (is_met c.args.other.now) c.loop-set.set-index c.set-item.result c.loop-set-test.true c.set-item.is c.loop-set.best there c.loop-set.invariant in
      subst (λ best. MatchOption best (AllMet (take (c.loop-set.set-index + 1) c.args.own.now) (is_met c.args.other.now)) (λ list. IsLeastUnmet c.args.params.now (take (c.loop-set.set-index + 1) c.args.own.now) (is_met c.args.other.now) list.items)) (sym w.best-is) kept
]
