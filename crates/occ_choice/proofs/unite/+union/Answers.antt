use Rattle.std.proofs.Common.{ℕ, ◌+◌, ◌*◌, ◌<◌, ◌||◌, ◌∙◌, refl, sym, ap, subst, arith}
use Rattle.std.proofs.lemmas.Result.{IfOk-weaker}
use Rattle.occ_node.specs.Offers.{is_offered}
use Rattle.occ_node.specs.declared.row.Row.{Row}
use Rattle.occ_node.specs.World.{fails, ends, row_fails, row_ends}
use Rattle.occ_node.proofs.Behaviours.{leads_trans}
use Rattle.occ_choice.specs.Joined.{weight}
use Rattle.occ_choice.specs.Union.{IsAdded}
use Rattle.occ_choice.proofs.Reaching.{reached_whole}
use Rattle.occ_choice.proofs.Uniting.{weight_below, first_known, second_known, added_more, sound-leads, sound_row, reached_now, added_earlier, union_added}
use Rattle.occ_choice.proofs.unite.+union.Goals as goal

pub add-either-requires : goal.add-either-requires
add-either-requires t c = (
  subst (λ (n : ℕ). weight c.child-q.result < n) c.decreases (weight_below c.args.world.now c.loop-event.world c.loop-event.invariant.leads c.args.b _ c.child-q.result c.requires.b c.child-q.ensures),
  (
    first_known c.args.world.now c.loop-event.world c.loop-event.world c.args.row.now c.args.b c.loop-event.invariant.leads c.requires.row c.requires.b _ c.find-p.result c.find-p.ensures,
    (
      second_known c.args.world.now c.loop-event.world c.loop-event.world c.args.row.now c.args.b c.loop-event.invariant.leads c.requires.row c.requires.b _ c.child-q.result c.child-q.ensures,
      c.loop-event.invariant.unions,
    ),
  ),
)

pub add-loop-event-preserved : goal.add-loop-event-preserved
add-loop-event-preserved t c = record {
  leads = leads_trans c.args.world.now c.loop-event.world c.either.new.world c.loop-event.invariant.leads c.either.ensures.leads;
  unions = c.either.ensures.unions;
  reached = added_more c.args.world.now c.loop-event.world c.either.new.world c.args.row.now c.args.b c.loop-event.invariant.leads c.requires.row c.requires.b c.either.ensures.leads _ _ c.find-p.result c.child-q.result
      c.in_ok-next.field-0 c.in-Some.next c.loop-event.offers c.push.new.self c.items-event-items.result.now c.loop-event.event-index c.find-p.ensures c.child-q.ensures c.in_ok-next.ensures.either c.in-Some.is
      c.loop-event-test.true refl c.loop-event.invariant.reached c.in_ok-push-in-Some.ensures.ok;
}

pub add-join-requires-clause-row : goal.add-join-requires-clause-row
add-join-requires-clause-row t c = sound-leads c.args.world.now c.loop-event.world c.loop-event.invariant.leads c.args.row.now c.requires.row

pub add-join-requires-clause-offers : goal.add-join-requires-clause-offers
add-join-requires-clause-offers t c =
    let leads = c.loop-event.invariant.leads in
    record {
      events = c.in_ok-events.events;
      increasing = c.items-event-items.ensures.strict;
      all = λ e. c.in_ok-events.ensures e ∙ ap (λ (r : Row). is_offered c.args.row.now.offers e || is_offered r.offers e) (c.row.ensures.row ∙ sym (leads.kept c.args.b c.requires.b));
      reached = reached_now c.args.world.now c.loop-event.world c.loop-event.invariant.leads c.args.row.now c.args.b c.requires.row c.requires.b c.loop-event.offers c.in_ok-events.events
          (reached_whole c.loop-event.world c.loop-event.offers c.items-event-items.result.now c.in_ok-events.events c.loop-event.event-index
          (λ t X. row_fails c.args.world.now c.args.row.now t X || fails c.args.world.now c.args.b t X) (λ t x. row_ends c.args.world.now c.args.row.now t x || ends c.args.world.now c.args.b t x)
          c.loop-event-test.false c.items-event-items.ensures.items c.loop-event.invariant.reached);
    }

pub add-returns-clause-added : goal.add-returns-clause-added
add-returns-clause-added t c = IfOk-weaker c.join.result (λ r. IsAdded c.loop-event.world c.join.new.world c.args.row.now c.args.b r) (λ r. IsAdded c.args.world.now c.join.new.world c.args.row.now c.args.b r)
    (λ r is. added_earlier c.args.world.now c.loop-event.world c.loop-event.invariant.leads c.args.row.now c.args.b c.requires.row c.requires.b c.join.new.world r is) c.join.ensures.added

pub union_with-add-requires : goal.union_with-add-requires
union_with-add-requires t c = (
  subst (λ (n : ℕ). 3 * c.args.b.0 + 1 < n) c.decreases (omega arith),
  (sound_row c.args.world.now c.args.a c.in_ok-row.row c.requires.a (c.in_ok-row.ensures ∙ c.row.ensures.row), (c.requires.b, c.requires.unions)),
)

pub union_with-returns-in_err-insert-clause-unions : goal.union_with-returns-in_err-insert-clause-unions
union_with-returns-in_err-insert-clause-unions t c = c.insert.ensures c.add.new.world c.add.ensures.unions
    (union_added c.args.world.now c.add.new.world c.add.ensures.leads c.args.a c.args.b c.in_ok-united.united c.in_ok-row.row c.requires.a c.requires.b (c.in_ok-row.ensures ∙ c.row.ensures.row) c.in_ok-united.ensures.added)

pub union_with-returns-clause-unions : goal.union_with-returns-clause-unions
union_with-returns-clause-unions t c = c.insert.ensures c.add.new.world c.add.ensures.unions
    (union_added c.args.world.now c.add.new.world c.add.ensures.leads c.args.a c.args.b c.in_ok-united.united c.in_ok-row.row c.requires.a c.requires.b (c.in_ok-row.ensures ∙ c.row.ensures.row) c.in_ok-united.ensures.added)

pub union_with-returns-clause-union : goal.union_with-returns-clause-union
union_with-returns-clause-union t c = union_added c.args.world.now c.add.new.world c.add.ensures.leads c.args.a c.args.b c.in_ok-united.united c.in_ok-row.row c.requires.a c.requires.b (c.in_ok-row.ensures ∙ c.row.ensures.row) c.in_ok-united.ensures.added
