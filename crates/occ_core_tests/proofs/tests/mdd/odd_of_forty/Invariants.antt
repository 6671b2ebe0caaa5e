use Rattle.occ_behaviour_read.specs.occ_dd.Store.{IsKnown}
use Rattle.occ_core_tests.proofs.tests.mdd.odd_of_forty.Given as goal

abbrev pub invariant-loop-k : goal.invariant-loop-k
invariant-loop-k l = IsKnown l.store l.odd
