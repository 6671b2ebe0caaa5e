use Rattle.std.proofs.Common.{◌+◌, ◌-◌, arith, ap, length}
use Rattle.std.proofs.lemmas.List.Elements.{All-push, All-same}
use Rattle.occ_run.specs.declared.answer.Move.TheVariants.{Unseen}
use Rattle.occ_place.specs.Steps.{SpanIsNamed, spell_span, spelled}
use Rattle.occ_place.proofs.Spelling.{begun, first_named, gone_on, none_named, split}
use Rattle.occ_place.proofs.spans.spans_of.Goals as goal

pub loop-rest-init : goal.loop-rest-init
loop-rest-init c =
    let front = split c.args.moves.now Unseen c.in-len1-up.len_at_least in
    record {
      whole = begun _ _ _ _ c.new-spans.ensures.items front;
      within = omega (arith, ap length front);
      order = omega arith;
      named = λ names all. let first = first_named names _ _ _ front all in (none_named names _ c.new-spans.ensures.items, (first.0, first.1));
    }

pub loop-rest-preserved : goal.loop-rest-preserved
loop-rest-preserved c =
    let front = split c.loop-rest.rest.now Unseen c.in-len1-up-rest.len_at_least in
    let now = c.in_ok-span.ensures in
    let i = c.loop-rest.invariant in
    record {
      whole = gone_on (spelled c.loop-rest.spans.items) (spell_span c.loop-rest.span) (spelled c.grown.new.spans.items) (spell_span c.in_ok-span.span) _
          (c.loop-rest.span.last + 1) (length c.args.moves.now - length c.loop-rest.rest.now) (c.in_ok-span.span.last + 1) _ _ _ front (omega (arith, i.within)) (omega (arith, now.last)) now.all i.whole;
      within = omega (arith, ap length front, i.within, now.last);
      order = now.order;
      named = λ names all.
          let before = i.named names all in
          let first = first_named names _ _ _ front before.1.1 in
          let after = now.named names before.0 before.1.0 first.0 in
          (after.0, (after.1, first.1));
    }

pub returns-clause-named : goal.returns-clause-named
returns-clause-named c = λ names all.
    let before = c.loop-rest.invariant.named names all in
    All-same (SpanIsNamed names) _ _ c.in_ok-push.ensures.items (All-push (SpanIsNamed names) _ _ before.0 before.1.0)
