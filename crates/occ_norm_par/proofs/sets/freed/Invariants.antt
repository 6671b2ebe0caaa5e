use Rattle.occ_norm_frame.specs.occ_dd.Store.{Keeps}
use Rattle.occ_norm_par.specs.States.{AreStates}
use Rattle.occ_norm_par.proofs.Freeing.{HasFreedBelow}
use Rattle.occ_norm_par.proofs.sets.freed.Given as goal

abbrev pub invariant-loop-bit : goal.invariant-loop-bit
invariant-loop-bit l = record {
  keeps : Keeps l.fn.store l.store;
  states : AreStates l.store l.fn.count l.freed;
  below : HasFreedBelow l.store l.fn.count l.fn.bits l.bit l.fn.from l.freed;
}
