use Rattle.std.proofs.Common.{◌≡◌, ◌^◌, ◌*◌, ◌%◌, ◌∙◌, ℕ, [], ◌∷◌, length, length-append, ap, sym, subst, arith}
use Rattle.std.proofs.lemmas.Nat.{one_shl}
use Rattle.occ_norm_assign.specs.Written.{onto}
use Rattle.occ_norm_assign.specs.Lists.{at}
use Rattle.occ_norm_assign.proofs.Listing.{Each, each_more, each_none, put_whole}
use Rattle.occ_norm_assign.proofs.lists.put_on.Goals as goal

pub loop-place-init : goal.loop-place-init
loop-place-init c = record { count = ap length c.in_ok-after.ensures.items; most = omega arith; each = each_none (λ i z. z ≡ onto c.args.world.now.store c.args.writes.now (at c.args.before.now i) (at c.args.before.now i) % 2 ^ c.args.bits) _ c.in_ok-after.ensures.items }

pub loop-place-preserved : goal.loop-place-preserved
loop-place-preserved c =
    let items = c.loop-place.after.items in
    let e = ap length c.in_ok-push.ensures.items in
    let l = length-append items (c.written-made.result % (1 * 2 ^ c.args.bits % 2 ^ 64) ∷ []) in
    let n = c.loop-place.invariant.count in
    let P : ℕ → ℕ → Type 0 = λ i z. z ≡ onto c.args.world.now.store c.args.writes.now (at c.args.before.now i) (at c.args.before.now i) % 2 ^ c.args.bits in
    record {
      count = omega (arith, e, l, n);
      most = omega (arith, c.loop-place-test.true, c.loop-place.auto.place-end);
      each = subst (Each P) (sym c.in_ok-push.ensures.items) (each_more P items (c.written-made.result % (1 * 2 ^ c.args.bits % 2 ^ 64)) c.loop-place.invariant.each
          ((λ i. c.written-made.ensures i % one_shl c.args.bits 64 (omega (arith, c.requires.bits)) i)
          ∙ ap (λ j. onto c.args.world.now.store c.args.writes.now (at c.args.before.now j) (at c.args.before.now j) % 2 ^ c.args.bits) (sym n)));
    }

pub returns-clause-are : goal.returns-clause-are
returns-clause-are c =
    let n = c.loop-place.invariant.count in
    let m = c.loop-place.invariant.most in
    (put_whole c.args.world.now.store c.args.bits c.args.writes.now c.args.before.now c.loop-place.after.items c.requires.before (omega (arith, n, m, c.loop-place-test.false, c.loop-place.auto.place-end)) c.loop-place.invariant.each).0

pub returns-clause-put : goal.returns-clause-put
returns-clause-put c =
    let n = c.loop-place.invariant.count in
    let m = c.loop-place.invariant.most in
    (put_whole c.args.world.now.store c.args.bits c.args.writes.now c.args.before.now c.loop-place.after.items c.requires.before (omega (arith, n, m, c.loop-place-test.false, c.loop-place.auto.place-end)) c.loop-place.invariant.each).1
