use Rattle.occ_parse_scopes.proofs.Walk.{IsAt, IsMarked}
use Rattle.occ_parse_scopes.proofs.scopes.Scopes.elements.Given as goal

-- what is marked, and what the entries up to the place say, is what all of them say
abbrev pub invariant-loop-k : goal.invariant-loop-k
invariant-loop-k l = IsAt l.self-inside.chain.items l.fn.name.0 l.k × IsMarked l.self-inside.chain.items l.fn.name.0 l.k l.table

abbrev pub decreases-loop-k : goal.decreases-loop-k
decreases-loop-k l = l.k
