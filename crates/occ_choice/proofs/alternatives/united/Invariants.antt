use Rattle.std.proofs.Common.{take}
use Rattle.occ_node.specs.World.{Leads}
use Rattle.occ_choice.specs.Branches.{AreUnited}
use Rattle.occ_choice.specs.Union.{AreUnions}
use Rattle.occ_choice.proofs.alternatives.united.Given as goal

abbrev pub invariant-loop-branch : goal.invariant-loop-branch
invariant-loop-branch l = record {
  leads : Leads l.initial.world l.world;
  unions : AreUnions l.world l.unions;
  united : AreUnited l.initial.world l.world (take l.branch-index l.branches) l.at l.found;
}
