use Rattle.std.proofs.Common.{◌≡◌, ◌||◌, ◌&&◌, take}
use Rattle.occ_syntax.specs.occ_base.declared.event.Event.{Event}
use Rattle.occ_refine.specs.occ_accept.Accept.{in_set}
use Rattle.occ_refine.specs.occ_node.Offers.{is_offered}
use Rattle.occ_traces.specs.Choosers.{is_wanted}
use Rattle.occ_traces.proofs.choices.add_wanted.Given as goal

abbrev pub invariant-loop-offer : goal.invariant-loop-offer
invariant-loop-offer l = (e : Event) → in_set l.events.items e ≡ (in_set l.initial.events.items e || (is_offered (take l.offer-index l.offer-items) e && is_wanted l.world l.node l.refused e))
