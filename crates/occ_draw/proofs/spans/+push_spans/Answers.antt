use Rattle.std.proofs.Common.{arith, sym, ◌∙◌}
use Rattle.std.proofs.lemmas.Result.{on_ok_weaker}
use Rattle.occ_draw.proofs.Started.{none_left, one_begins, one_goes_on, rest_named, rest_shorter}
use Rattle.occ_draw.proofs.spans.+push_spans.Goals as goal

pub returns-then-precedes : goal.returns-then-precedes
returns-then-precedes t c = on_ok_weaker c.push_spans.result
    (λ e. one_goes_on c.args.names.now c.args.first c.args.last _ c.args.rest.now c.args.text.now.items _ c.in-len1-up.len_at_least (sym c.precedes.ensures ∙ c.if-precedes.true) e)
    c.push_spans.ensures

pub push_spans-requires-in-len1-up : goal.push_spans-requires-in-len1-up
push_spans-requires-in-len1-up t c = (
  omega (arith, rest_shorter c.args.rest.now c.args.first c.in-len1-up.len_at_least, c.decreases),
  (c.requires.rest 0 _ c.in-len1-up.len_at_least, rest_named c.args.names.now c.args.rest.now c.args.first c.in-len1-up.len_at_least c.requires.rest),
)

pub returns-in-empty : goal.returns-in-empty
returns-in-empty t c = on_ok_weaker c.push_span.result
    (λ e. none_left c.args.names.now c.args.first c.args.last c.args.rest.now c.args.text.now.items _ (omega (arith, c.in-empty.len_below)) e) c.push_span.ensures

pub returns-in_ok-push-in-len1-up : goal.returns-in_ok-push-in-len1-up
returns-in_ok-push-in-len1-up t c = on_ok_weaker c.push_spans-in-len1-up.result
    (λ e. one_begins c.args.names.now c.args.first c.args.last _ c.args.rest.now c.args.text.now.items _ _ _ c.in-len1-up.len_at_least (sym c.precedes.ensures ∙ c.if-precedes.false)
    c.in_ok-push_span-in-len1-up.ensures c.in_ok-push-in-len1-up.ensures.items e)
    c.push_spans-in-len1-up.ensures
