use Rattle.std.proofs.Common.{sym, ◌∙◌, subst, length}
use Rattle.occ_target.specs.Framed.{AreBelow}
use Rattle.occ_target.proofs.Below.{below_chosen}
use Rattle.occ_target.proofs.count.acceptances_size.Goals as goal

pub events_size-size-requires : goal.events_size-size-requires
events_size-size-requires c = subst (AreBelow (length c.args.sizes.now)) (sym (c.items-in-loop-set.ensures ∙ c.in_ok-moves.ensures)) (below_chosen _ _ c.args.offers.now c.requires)
