use Rattle.std.proofs.Common.{◌≡◌, reverse}
use Rattle.occ_parse_scopes.specs.Chain.{entries, has_elements_below}
use Rattle.occ_parse_scopes.proofs.Walk.{IsAt, upto}
use Rattle.occ_parse_scopes.proofs.scopes.Scopes.has_elements_below.Given as goal

-- what the entries up to the place say is what all of them say
abbrev pub invariant-loop-k : goal.invariant-loop-k
invariant-loop-k l =
    let chain = l.self-inside.chain.items in
    IsAt chain l.name.0 l.k × (has_elements_below (entries (reverse chain)) l.name.0 l.count ≡ has_elements_below (entries (upto chain l.k)) l.name.0 l.count)

abbrev pub decreases-loop-k : goal.decreases-loop-k
decreases-loop-k l = l.k
