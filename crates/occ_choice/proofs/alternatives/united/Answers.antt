use Rattle.std.proofs.Common.{refl}
use Rattle.occ_node.proofs.Behaviours.{leads_trans}
use Rattle.occ_choice.proofs.Choosing.{united_more}
use Rattle.occ_choice.proofs.alternatives.united.Goals as goal

pub loop-branch-preserved : goal.loop-branch-preserved
loop-branch-preserved c = record {
  leads = leads_trans c.args.world.now c.loop-branch.world c.either.new.world c.loop-branch.invariant.leads c.either.ensures.leads;
  unions = c.either.ensures.unions;
  united = united_more c.args.world.now c.loop-branch.world c.either.new.world c.loop-branch.invariant.leads c.args.branches.now c.loop-branch.branch-index _ _ c.args.at c.loop-branch.found c.chosen-next.result c.in_ok-united.united
      c.loop-branch-test.true refl c.requires.branches c.chosen-next.ensures c.loop-branch.invariant.united c.in_ok-united.ensures.either;
}
