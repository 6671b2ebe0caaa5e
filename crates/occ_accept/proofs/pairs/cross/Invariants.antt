use Rattle.std.proofs.Common.{◌≡◌, ◌||◌, Bool, true, take}
use Rattle.occ_base.specs.declared.event.Event.{Event}
use Rattle.occ_accept.specs.Accept.{IsAntichain, in_some, refuses_both, refuses}
use Rattle.occ_accept.proofs.pairs.cross.Given as goal

abbrev pub invariant-loop-set : goal.invariant-loop-set
invariant-loop-set l =
    IsAntichain l.sets.items
    × ((X : Event → Bool) → refuses l.sets.items X ≡ refuses_both (take l.set-index l.set-items) l.others X)
    × ((e : Event) → in_some l.sets.items e ≡ true → (in_some (take l.set-index l.set-items) e || in_some l.others e) ≡ true)
