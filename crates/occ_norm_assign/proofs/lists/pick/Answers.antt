use Rattle.std.proofs.Common.{◌∙◌, sym, arith}
use Rattle.occ_norm_assign.proofs.Picking.{picked_no, picked_none, picked_yes}
use Rattle.occ_norm_assign.proofs.lists.pick.Goals as goal

pub loop-place-init : goal.loop-place-init
loop-place-init c = picked_none c.args.world.now.store c.args.set c.args.before.now c.args.there.now c.args.after.now.items c.requires.after

pub loop-place-preserved-then-not-leads : goal.loop-place-preserved-then-not-leads
loop-place-preserved-then-not-leads c =
    picked_no c.args.world.now.store c.args.set c.args.before.now c.args.there.now c.args.after.now.items c.loop-place.after.items c.loop-place.place (sym c.has-leads.ensures ∙ c.if-not-leads.true) c.loop-place.invariant

pub loop-place-preserved : goal.loop-place-preserved
loop-place-preserved c =
    picked_yes c.args.world.now.store c.args.set c.args.before.now c.args.there.now c.args.after.now.items c.loop-place.after.items c.loop-place.place (omega arith) (sym c.has-leads.ensures ∙ c.if-not-leads.false) c.loop-place.invariant
