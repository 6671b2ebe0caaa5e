use Rattle.std.proofs.Common.{◌≡◌, ◌≤◌, length, take, reverse}
use Rattle.occ_parse_unroll.specs.Present.{values_of}
use Rattle.occ_parse_unroll.proofs.values.Values.value.Given as goal

-- what the outer ones say is what all of them say
abbrev pub invariant-loop-k : goal.invariant-loop-k
invariant-loop-k l =
    let list = l.self-inside.list.items in
    (l.k ≤ length list) × (values_of (reverse (take l.k list)) l.name.0 ≡ values_of (reverse list) l.name.0)

abbrev pub decreases-loop-k : goal.decreases-loop-k
decreases-loop-k l = l.k
