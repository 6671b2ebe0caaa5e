use Rattle.std.proofs.Common.{arith}
use Rattle.std.proofs.lemmas.Result.{on_ok_weaker}
use Rattle.occ_draw.proofs.Started.{no_events, whole_events}
use Rattle.occ_draw.proofs.spans.push_events.Goals as goal

pub returns-in-empty : goal.returns-in-empty
returns-in-empty c = no_events c.args.names.now c.args.events.now c.args.text.now.items (omega (arith, c.in-empty.len_below))

pub returns-in-len1-up : goal.returns-in-len1-up
returns-in-len1-up c = on_ok_weaker c.push_spans.result (λ e. whole_events c.args.names.now _ c.args.events.now c.args.text.now.items _ c.in-len1-up.len_at_least e) c.push_spans.ensures
