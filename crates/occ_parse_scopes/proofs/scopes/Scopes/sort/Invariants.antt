use Rattle.std.proofs.Common.{◌≡◌, reverse}
use Rattle.occ_parse_rules.specs.Places.{sort_at}
use Rattle.occ_parse_scopes.specs.Chain.{entries}
use Rattle.occ_parse_scopes.proofs.Walk.{IsAt, upto}
use Rattle.occ_parse_scopes.proofs.scopes.Scopes.sort.Given as goal

-- what the entries up to the place say is what all of them say
abbrev pub invariant-loop-k : goal.invariant-loop-k
invariant-loop-k l =
    let chain = l.self-inside.chain.items in
    IsAt chain l.name.0 l.k × (sort_at (entries (reverse chain)) l.name.0 l.element ≡ sort_at (entries (upto chain l.k)) l.name.0 l.element)

abbrev pub decreases-loop-k : goal.decreases-loop-k
decreases-loop-k l = l.k
