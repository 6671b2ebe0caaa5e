use Rattle.std.proofs.Common.{◌+◌, map, take, sym, subst}
use Rattle.occ_engine.proofs.Granting.{begins, cut_off_in, further_in, rules_further}
use Rattle.occ_engine.proofs.Putting.{rules_copied}
use Rattle.occ_engine.specs.Granted.{IsBrought}
use Rattle.occ_engine.specs.Wishes.{wish_of}
use Rattle.occ_engine.proofs.expansion.grant_all.Goals as goal

pub loop-wish-init : goal.loop-wish-init
loop-wish-init c =
    let from = c.args.from.now in
    let copy = c.in_ok-to.to in
    let e = c.in_ok-to.ensures in
    record { keeps = rules_copied from copy e.params e.body c.requires; brought = begins from copy c.new-steps.result c.new-steps.ensures e.name e.params e.body }

pub returns-in-Err-clause-stopped : goal.returns-in-Err-clause-stopped
returns-in-Err-clause-stopped c =
    let i = c.loop-wish.invariant in
    cut_off_in c.args.from.now c.loop-wish.to c.args.wishes.now c.loop-wish.steps c.loop-wish.wish-index c.wish-item.result c.in-Err.stopped
    c.loop-wish-test.true (sym c.wish-item.is) i.brought (c.in-Err.ensures.stopped)

pub loop-wish-preserved : goal.loop-wish-preserved
loop-wish-preserved c =
    let i = c.loop-wish.invariant in
    let made = c.in-Ok.ensures.moved in
    let from = c.args.from.now in
    let moved = c.in-Ok.field-0 in
    record {
      keeps = rules_further c.loop-wish.to (wish_of c.wish-item.result) moved i.keeps made;
      brought = subst (λ ss. IsBrought from (map wish_of (take (c.loop-wish.wish-index + 1) c.args.wishes.now)) ss moved.to) (sym c.in_ok-push-in-Ok.ensures.ok)
          (further_in from c.loop-wish.to c.args.wishes.now c.loop-wish.steps c.loop-wish.wish-index c.wish-item.result moved c.loop-wish-test.true (sym c.wish-item.is) i.brought made);
    }
