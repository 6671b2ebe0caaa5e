use Rattle.std.proofs.Common.{refl}
use Rattle.std.specs.List.{list_any}
use Rattle.occ_node.proofs.Behaviours.{leads_trans}
use Rattle.occ_choice.specs.Branches.{event_fails, event_ends}
use Rattle.occ_choice.proofs.Reaching.{reached_strict, reached_whole}
use Rattle.occ_choice.proofs.Choosing.{offered_more}
use Rattle.occ_choice.proofs.alternatives.offer.Goals as goal

pub loop-event-preserved : goal.loop-event-preserved
loop-event-preserved c = record {
  leads = leads_trans c.args.world.now c.loop-event.world c.united.new.world c.loop-event.invariant.leads c.united.ensures.leads;
  unions = c.united.ensures.unions;
  reached = offered_more c.args.world.now c.loop-event.world c.united.new.world c.loop-event.invariant.leads c.united.ensures.leads c.args.branches.now c.requires.branches _ _ c.in-Some.next c.in_ok-next.field-0
      c.loop-event.offers c.push.new.self c.items-event-items.result.now c.loop-event.event-index c.in_ok-next.ensures.united c.in-Some.is c.loop-event-test.true refl c.loop-event.invariant.reached c.in_ok-push-in-Some.ensures.ok;
}

pub returns-clause-increasing : goal.returns-clause-increasing
returns-clause-increasing c = reached_strict c.loop-event.world c.loop-event.offers c.args.events.now _ _
    (reached_whole c.loop-event.world c.loop-event.offers c.items-event-items.result.now c.args.events.now c.loop-event.event-index (λ t X. list_any (event_fails c.args.world.now t X) c.args.branches.now) (λ t x. list_any (event_ends c.args.world.now t x) c.args.branches.now)
    c.loop-event-test.false c.items-event-items.ensures.items c.loop-event.invariant.reached) c.items-event-items.ensures.strict
