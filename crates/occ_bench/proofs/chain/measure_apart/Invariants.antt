use Rattle.occ_weave.specs.occ_node.World.{IsNode}
use Rattle.occ_bench.proofs.chain.measure_apart.Given as goal

-- the chain so far is a node
abbrev pub invariant-loop-place : goal.invariant-loop-place
invariant-loop-place l = IsNode l.world l.chain
