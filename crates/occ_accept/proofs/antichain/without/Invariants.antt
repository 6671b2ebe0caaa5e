use Rattle.std.proofs.Common.{◌≡◌, ◌&&◌, Bool, true, not, take}
use Rattle.occ_base.specs.declared.event.Event.{Event}
use Rattle.occ_accept.specs.Accept.{IsAntichain, in_some, refuses, is_on}
use Rattle.occ_accept.proofs.antichain.without.Given as goal

abbrev pub invariant-loop-set : goal.invariant-loop-set
invariant-loop-set l =
    IsAntichain l.chain.items
    × ((X : Event → Bool) → refuses l.chain.items X ≡ refuses (take l.set-index l.set-items) (λ e. X e && not (is_on l.chan e)))
    × ((e : Event) → in_some l.chain.items e ≡ true → (in_some (take l.set-index l.set-items) e && not (is_on l.chan e)) ≡ true)
