use Rattle.std.proofs.Common.{◌∷◌, take}
use Rattle.occ_choice.specs.occ_node.World.{Leads}
use Rattle.occ_choice.specs.Union.{AreUnions}
use Rattle.occ_follow.specs.Nexts.{IsUnionOf}
use Rattle.occ_follow.proofs.nexts.united.Given as goal

-- the nodes so far are together
abbrev pub invariant-loop-other : goal.invariant-loop-other
invariant-loop-other l = record {
  leads : Leads l.fn.world l.world;
  unions : AreUnions l.world l.unions;
  united : IsUnionOf l.fn.world l.world (l.fn.first ∷ take l.other-index l.others) l.united;
}
