use Rattle.std.proofs.Common.{ap, sym, ◌∙◌, ◌++◌, ◌-◌, [], ◌∷◌}
use Rattle.std.proofs.lemmas.List.{append_assoc}
use Rattle.occ_place.specs.Steps.{spell, spell_span, spelled}
use Rattle.occ_place.proofs.Spelling.{joined_spelled, pushed_spelled}
use Rattle.occ_place.proofs.spans.grown.Goals as goal

pub returns-then-joins-clause-all : goal.returns-then-joins-clause-all
returns-then-joins-clause-all c =
    ap (λ l. spelled c.args.spans.now.items ++ l)
    (joined_spelled c.args.span.from c.args.span.last c.args.next.0 c.args.span.first c.args.seen c.requires.order c.requires.next (c.joins.ensures c.if-joins.true))
    ∙ sym (append_assoc (spelled c.args.spans.now.items) (spell_span c.args.span) ((c.args.next.0, c.args.seen) ∷ []))

pub returns-clause-all : goal.returns-clause-all
returns-clause-all c =
    ap (λ l. spelled l ++ spell c.args.next.0 c.args.seen (c.args.next.0 - c.args.next.0)) c.in_ok-push.ensures.items
    ∙ pushed_spelled c.args.spans.now.items c.args.span c.args.next.0 c.args.seen
