use Rattle.std.proofs.Common.{◌≡◌, arith, length, subst, sym}
use Rattle.occ_meaning.specs.Parallel.{Reordered, all_of, as_they_are, in_steps}
use Rattle.occ_norm_arrange.proofs.Orders.{none_left}
use Rattle.occ_syntax.specs.View.{in_procs, trees}
use Rattle.occ_norm_arrange.proofs.order.in_order.Goals as goal

pub loop-at-init : goal.loop-at-init
loop-at-init c = subst (λ xs. Reordered (trees c.args.parts.items) (all_of (trees xs) (trees c.args.parts.items))) (sym c.new-sorted.ensures) as_they_are

pub loop-at-preserved : goal.loop-at-preserved
loop-at-preserved c = in_steps c.loop-at.invariant c.in_ok-take.ensures.order

pub loop-rest-preserved : goal.loop-rest-preserved
loop-rest-preserved c = in_steps c.loop-rest.invariant c.in_ok-take-2.ensures.order

pub returns : goal.returns
returns c =
    let none : length c.loop-rest.rest.items ≡ 0 = omega (arith, c.loop-rest-test.false, c.count.ensures) in
    none_left (trees c.args.parts.items) (in_procs c.loop-rest.sorted) c.loop-rest.rest.items none c.loop-rest.invariant
