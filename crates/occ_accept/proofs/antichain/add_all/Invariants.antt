use Rattle.std.proofs.Common.{◌≡◌, ◌||◌, Bool, true, take}
use Rattle.occ_base.specs.declared.event.Event.{Event}
use Rattle.occ_accept.specs.Accept.{IsAntichain, in_some, refuses}
use Rattle.occ_accept.proofs.antichain.add_all.Given as goal

abbrev pub invariant-loop-set : goal.invariant-loop-set
invariant-loop-set l =
    IsAntichain l.sets.items
    × ((X : Event → Bool) → refuses l.sets.items X ≡ (refuses l.initial.sets.items X || refuses (take l.set-index l.more) X))
    × ((e : Event) → in_some l.sets.items e ≡ true → (in_some l.initial.sets.items e || in_some (take l.set-index l.more) e) ≡ true)
