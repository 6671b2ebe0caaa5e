use Rattle.occ_norm_frame.specs.Maps.{Extends}
use Rattle.occ_norm_par.specs.States.{AreStates}
use Rattle.occ_norm_par.proofs.Leaving.{LeftSoFar}
use Rattle.occ_norm_par.proofs.choices.states_left.Given as goal

abbrev pub invariant-loop-place : goal.invariant-loop-place
invariant-loop-place l = record {
  extends : Extends l.fn.world l.world;
  last : AreStates l.world.store l.frame.bits l.last;
  left : LeftSoFar l.world.store l.frame.layout l.frame.bits l.fn.from l.last l.choices l.place l.sets.items;
}
