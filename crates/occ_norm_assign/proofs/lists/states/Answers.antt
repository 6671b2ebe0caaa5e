use Rattle.std.proofs.Common.{◌≡◌, [], ◌∷◌, length, length-append, ap, sym, subst, arith}
use Rattle.std.proofs.lemmas.Nat.{one_shl}
use Rattle.occ_norm_assign.proofs.Listing.{Each, each_more, each_none, states_whole}
use Rattle.occ_norm_assign.proofs.lists.states.Goals as goal

pub loop-state-init : goal.loop-state-init
loop-state-init c = record { count = ap length c.new-list.ensures.items; most = omega arith; each = each_none (λ i x. x ≡ i) _ c.new-list.ensures.items }

pub loop-state-preserved : goal.loop-state-preserved
loop-state-preserved c =
    let items = c.loop-state.list.items in
    let state = c.loop-state.state in
    let e = ap length c.in_ok-push.ensures.items in
    let l = length-append items (state ∷ []) in
    let n = c.loop-state.invariant.count in
    let size = one_shl c.args.bits 64 (omega (arith, c.requires)) in
    record {
      count = omega (arith, e, l, n);
      most = omega (arith, c.loop-state-test.true, c.loop-state.auto.state-end, size);
      each = subst (Each (λ i x. x ≡ i)) (sym c.in_ok-push.ensures.items) (each_more (λ i x. x ≡ i) items state c.loop-state.invariant.each (sym n));
    }

pub returns-clause-are : goal.returns-clause-are
returns-clause-are c =
    let size = one_shl c.args.bits 64 (omega (arith, c.requires)) in
    let n = c.loop-state.invariant.count in
    let m = c.loop-state.invariant.most in
    (states_whole c.args.bits c.loop-state.list.items (omega (arith, n, m, size, c.loop-state-test.false, c.loop-state.auto.state-end)) c.loop-state.invariant.each).0

pub returns-clause-same : goal.returns-clause-same
returns-clause-same c =
    let size = one_shl c.args.bits 64 (omega (arith, c.requires)) in
    let n = c.loop-state.invariant.count in
    let m = c.loop-state.invariant.most in
    (states_whole c.args.bits c.loop-state.list.items (omega (arith, n, m, size, c.loop-state-test.false, c.loop-state.auto.state-end)) c.loop-state.invariant.each).1
