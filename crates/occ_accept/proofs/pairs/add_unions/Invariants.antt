use Rattle.std.proofs.Common.{◌≡◌, ◌||◌, ◌&&◌, Bool, true, take}
use Rattle.std.specs.List.{list_any}
use Rattle.occ_base.specs.declared.event.Event.{Event}
use Rattle.occ_accept.specs.Accept.{IsAntichain, in_set, in_some, is_unmatched, misses, refuses}
use Rattle.occ_accept.proofs.pairs.add_unions.Given as goal

abbrev pub invariant-loop-b : goal.invariant-loop-b
invariant-loop-b l =
    IsAntichain l.sets.items
    × ((X : Event → Bool) → refuses l.sets.items X ≡ (refuses l.initial.sets.items X || list_any (λ b. is_unmatched l.a b && (misses X l.a && misses X b)) (take l.b-index l.others)))
    × ((e : Event) → in_some l.sets.items e ≡ true → (in_some l.initial.sets.items e || (in_set l.a e || in_some (take l.b-index l.others) e)) ≡ true)
