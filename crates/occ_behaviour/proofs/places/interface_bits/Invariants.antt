use Rattle.std.proofs.Common.{◌≡◌, ◌+◌, drop}
use Rattle.occ_syntax.specs.Counts.{bits_of_scope}
use Rattle.occ_behaviour.proofs.places.interface_bits.Given as goal

abbrev pub invariant-loop-kind : goal.invariant-loop-kind
invariant-loop-kind l = l.bits + bits_of_scope (drop l.kind-index l.params) ≡ bits_of_scope l.params
