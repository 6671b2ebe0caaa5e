use Rattle.std.proofs.Common.{◌≡◌, map, take}
use Rattle.occ_law_par.proofs.order.references.Given as goal

-- the parts so far
abbrev pub invariant-loop-part : goal.invariant-loop-part
invariant-loop-part l = map (λ part. part.now) l.found.items ≡ take l.part-index l.parts
