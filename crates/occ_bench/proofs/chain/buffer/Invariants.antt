use Rattle.occ_weave.specs.occ_node.World.{IsNode, Leads}
use Rattle.occ_bench.proofs.chain.buffer.Given as goal

-- the buffer for the messages so far is a node
abbrev pub invariant-loop-message : goal.invariant-loop-message
invariant-loop-message l = record {
  leads : Leads l.fn.world l.world;
  node : IsNode l.world l.node;
}
