use Rattle.std.proofs.Common.{sym, Some, None}
use Rattle.occ_nform_read.proofs.Forms.{offer_line}
use Rattle.occ_nform_read.proofs.events.offer_of.Goals as goal

pub returns-in-Some-lower : goal.returns-in-Some-lower
returns-in-Some-lower c = offer_line c.args.names.now c.args.params.now c.args.n c.args.line.now c.in-Some.text.now c.in-Some-cut.word.now c.in-Some-cut.numeral.now
    c.in-Some-event_of.event (Some c.in-Some-lower.row) c.in-Some.ensures c.in-Some-cut.ensures (sym c.in-Some-event_of.ensures) c.in-Some-lower.ensures

pub returns-in-None : goal.returns-in-None
returns-in-None c = offer_line c.args.names.now c.args.params.now c.args.n c.args.line.now c.in-Some.text.now c.in-Some-cut.word.now c.in-Some-cut.numeral.now c.in-Some-event_of.event None c.in-Some.ensures c.in-Some-cut.ensures (sym c.in-Some-event_of.ensures) c.in-None.ensures
