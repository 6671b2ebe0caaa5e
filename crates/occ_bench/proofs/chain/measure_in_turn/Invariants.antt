use Rattle.occ_weave.specs.occ_node.World.{IsNode}
use Rattle.occ_weave.specs.Memo.{AreWeaves, Remembers}
use Rattle.occ_bench.proofs.chain.measure_in_turn.Given as goal

-- the chain so far is a node, and what is remembered is so
abbrev pub invariant-loop-place : goal.invariant-loop-place
invariant-loop-place l = record {
  chain : IsNode l.weaver.world l.chain;
  right : Remembers l.manner.written l.manner.closed.items l.weaver;
  other : AreWeaves l.weaver.world l.other.written l.other.closed.items l.other_pairs;
}
