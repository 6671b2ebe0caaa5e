use Rattle.occ_follow.specs.Sequence.{HasNodes}
use Rattle.occ_norm_frame.specs.Maps.{Extends}
use Rattle.occ_norm_frame.specs.Changes.{IsFreed}
use Rattle.occ_norm_frame.proofs.changes.freed.Given as goal

abbrev pub invariant-loop-bit : goal.invariant-loop-bit
invariant-loop-bit l = record {
  extends : Extends l.fn.world l.world;
  nodes : HasNodes l.world l.freed;
  freed : IsFreed l.world l.fn.first l.bit l.fn.map l.freed;
}
