use Rattle.occ_bits.specs.occ_dd.Store.{IsKnown}
use Rattle.occ_bench.proofs.tasks.parity.Given as goal

abbrev pub invariant-loop-k : goal.invariant-loop-k
invariant-loop-k l = IsKnown l.store l.odd
