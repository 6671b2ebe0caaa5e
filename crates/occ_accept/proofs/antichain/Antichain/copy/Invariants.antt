use Rattle.std.proofs.Common.{◌≡◌, take}
use Rattle.occ_accept.proofs.antichain.Antichain.copy.Given as goal

abbrev pub invariant-loop-set : goal.invariant-loop-set
invariant-loop-set l = (l.set-items ≡ l.self) × (l.sets.items ≡ take l.set-index l.set-items)
