use Rattle.std.proofs.Common.{◌≡◌, ◌||◌, ◌&&◌, not, take}
use Rattle.occ_syntax.specs.occ_base.declared.event.Event.{Event}
use Rattle.occ_node.specs.occ_accept.Accept.{in_set}
use Rattle.occ_node.specs.Offers.{is_offered}
use Rattle.occ_compare.proofs.offers.add_outside.Given as goal

abbrev pub invariant-loop-offer : goal.invariant-loop-offer
invariant-loop-offer l = (e : Event) → in_set l.events.items e ≡ (in_set l.initial.events.items e || (is_offered (take l.offer-index l.offers) e && not (in_set l.set e)))
