use Rattle.occ_norm_assign.proofs.Picking.{ArePickedTo}
use Rattle.occ_norm_assign.proofs.lists.pick.Given as goal

abbrev pub invariant-loop-place : goal.invariant-loop-place
invariant-loop-place l = ArePickedTo l.world.store l.set l.before l.there l.initial.after.items l.place l.after.items
