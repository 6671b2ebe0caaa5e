use Rattle.std.proofs.Common.{◌≡◌, take}
use Rattle.occ_norm_frame.specs.Lifted.{branches_of}
use Rattle.occ_norm_frame.proofs.nodes.branches_of.Given as goal

-- the offers so far
abbrev pub invariant-loop-offer : goal.invariant-loop-offer
invariant-loop-offer l = l.branches.items ≡ branches_of (take l.offer-index l.offer-items)
