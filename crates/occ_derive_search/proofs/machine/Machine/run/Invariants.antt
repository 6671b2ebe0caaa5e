use Rattle.std.proofs.Common.{◌≡◌, Some, drop}
use Rattle.occ_derive_search.specs.Codes.{runs}
use Rattle.occ_derive_search.specs.Piles.{Held}
use Rattle.occ_derive_search.specs.Seen.{held}
use Rattle.occ_derive_search.proofs.machine.Machine.run.Given as goal

abbrev pub invariant-loop-digit : goal.invariant-loop-digit
invariant-loop-digit l = (next : Held) → runs l.code (held l.initial.self) ≡ Some next → runs (drop l.digit-index l.code) (held l.self) ≡ Some next
