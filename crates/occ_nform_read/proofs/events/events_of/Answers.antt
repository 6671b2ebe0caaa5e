use Rattle.std.proofs.Common.{sym, ap, Some, ◌∙◌, arith}
use Rattle.occ_nform_table.specs.Words.{each, items_of, words}
use Rattle.occ_nform_table.specs.Lines.{event_of}
use Rattle.occ_nform_read.proofs.Splitting.{with_items, each_empty, each_starts, each_goes, each_stops, each_last, each_fails, cut_shorter}
use Rattle.occ_nform_read.proofs.events.events_of.Goals as goal

pub returns-then-is_empty : goal.returns-then-is_empty
returns-then-is_empty c = ap Some c.new-events.ensures ∙ each_empty (event_of c.args.names.now c.args.params.now) c.args.text.now (sym c.is_empty.ensures ∙ c.if-is_empty.true)

pub loop-word-init : goal.loop-word-init
loop-word-init c = ap (λ xs. with_items xs (each (event_of c.args.names.now c.args.params.now) (words c.args.text.now))) c.new-events.ensures ∙ each_starts (event_of c.args.names.now c.args.params.now) c.args.text.now (sym c.is_empty.ensures ∙ c.if-is_empty.false)

pub loop-word-smaller : goal.loop-word-smaller
loop-word-smaller c = omega (arith, cut_shorter 32 c.loop-word.rest.now c.in-Some.word.now c.in-Some.others.now c.in-Some.ensures)

pub loop-word-preserved : goal.loop-word-preserved
loop-word-preserved c =
    ap (λ xs. with_items xs (each (event_of c.args.names.now c.args.params.now) (words c.in-Some.others.now))) c.in_ok-push.ensures.ok
    ∙ each_goes (event_of c.args.names.now c.args.params.now) c.loop-word.events c.loop-word.rest.now c.in-Some.word.now c.in-Some.others.now c.in-Some-event_of.event
    (each (event_of c.args.names.now c.args.params.now) (items_of c.args.text.now)) c.in-Some.ensures (sym c.in-Some-event_of.ensures) c.loop-word.invariant

pub returns-in_default-event_of : goal.returns-in_default-event_of
returns-in_default-event_of c = each_stops (event_of c.args.names.now c.args.params.now) c.loop-word.events c.loop-word.rest.now c.in-Some.word.now c.in-Some.others.now
    (each (event_of c.args.names.now c.args.params.now) (items_of c.args.text.now)) c.in-Some.ensures (sym c.in_default-event_of.ensures) c.loop-word.invariant

pub returns-in_default-event_of-2 : goal.returns-in_default-event_of-2
returns-in_default-event_of-2 c = each_fails (event_of c.args.names.now c.args.params.now) c.loop-word.events c.loop-word.rest.now (each (event_of c.args.names.now c.args.params.now) (items_of c.args.text.now)) c.in_default.ensures (sym c.in_default-event_of-2.ensures) c.loop-word.invariant

pub returns : goal.returns
returns c =
    ap Some c.in_ok-push-2.ensures.ok
    ∙ each_last (event_of c.args.names.now c.args.params.now) c.loop-word.events c.loop-word.rest.now c.in-Some-event_of-2.event (each (event_of c.args.names.now c.args.params.now) (items_of c.args.text.now)) c.in_default.ensures (sym c.in-Some-event_of-2.ensures) c.loop-word.invariant
