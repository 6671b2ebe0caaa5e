use Rattle.std.proofs.Common.{get_or}
use Rattle.occ_choice.proofs.from_node.Behaviours.{leads_refl, leads_trans, node-leads}
use Rattle.occ_follow.proofs.Uniting.{union_one, union_more, union_whole}
use Rattle.occ_follow.proofs.nexts.united.Goals as goal

pub loop-other-init : goal.loop-other-init
loop-other-init c = record { leads = leads_refl c.args.world.now; unions = c.requires.unions; united = union_one c.args.world.now c.args.first c.args.others.now c.requires.first }

pub union_with-requires : goal.union_with-requires
union_with-requires c =
    let i = c.loop-other.invariant in
    record {
      a = i.united.known;
      b = node-leads c.args.world.now c.loop-other.world i.leads (get_or c.args.others.now c.loop-other.other-index (record { 0 = 0 })) (c.requires.others c.loop-other.other-index (record { 0 = 0 }) c.loop-other-test.true);
      unions = i.unions;
    }

pub loop-other-preserved : goal.loop-other-preserved
loop-other-preserved c =
    let u = c.args.world.now in
    let v = c.loop-other.world in
    let w = c.union_with.new.world in
    let i = c.loop-other.invariant in
    let whole = leads_trans u v w i.leads c.union_with.ensures.leads in
    record {
      leads = whole;
      unions = c.union_with.ensures.unions;
      united = union_more u v w i.leads c.union_with.ensures.leads c.args.first c.loop-other.united c.in_ok-united.united c.args.others.now c.loop-other.other-index (record { 0 = 0 }) c.loop-other-test.true c.requires.others i.united c.in_ok-united.ensures.union whole;
    }

pub returns-clause-united : goal.returns-clause-united
returns-clause-united c = union_whole c.args.world.now c.loop-other.world c.args.first c.loop-other.united c.args.others.now c.loop-other.other-index c.loop-other-test.false c.loop-other.invariant.united
