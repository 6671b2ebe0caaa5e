use Rattle.std.proofs.Common.{◌≡◌, map, take}
use Rattle.occ_law_alt.proofs.order.references.Given as goal

-- the branches so far
abbrev pub invariant-loop-other : goal.invariant-loop-other
invariant-loop-other l = map (λ other. other.now) l.list.items ≡ take l.other-index l.others
