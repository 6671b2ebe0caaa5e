use Rattle.std.proofs.Common.{sym}
use Rattle.occ_nform_table.specs.occ_lex.Rows.{rows}
use Rattle.occ_nform_table.specs.Lines.{offer_of}
use Rattle.occ_nform_table.specs.Reading.{taken}
use Rattle.occ_nform_read.proofs.Taking.{nothing_before, taken_goes, taken_stops, taken_ends}
use Rattle.occ_nform_read.proofs.reading.offers_in.Goals as goal

pub loop-line-init : goal.loop-line-init
loop-line-init c = nothing_before c.new-offers.result (taken (offer_of c.args.names.now c.args.params.now c.args.n) (rows c.args.text.now)) c.new-offers.ensures

pub loop-line-preserved : goal.loop-line-preserved
loop-line-preserved c = taken_goes (offer_of c.args.names.now c.args.params.now c.args.n) c.loop-line.offers _ (rows c.loop-line.rest.now) c.in-Some.line.now (rows c.in-Some.after.now) _
    (taken (offer_of c.args.names.now c.args.params.now c.args.n) (rows c.args.text.now)) c.in-Some.ensures.0 (sym c.in-Some-offer_of.ensures) c.in_ok-push.ensures.ok c.loop-line.invariant

pub returns-in_default-offer_of : goal.returns-in_default-offer_of
returns-in_default-offer_of c = taken_stops (offer_of c.args.names.now c.args.params.now c.args.n) c.loop-line.offers (rows c.loop-line.rest.now) c.in-Some.line.now
    (rows c.in-Some.after.now) (taken (offer_of c.args.names.now c.args.params.now c.args.n) (rows c.args.text.now)) c.in-Some.ensures.0 (sym c.in_default-offer_of.ensures) c.loop-line.invariant

pub returns : goal.returns
returns c = taken_ends (offer_of c.args.names.now c.args.params.now c.args.n) c.loop-line.offers (rows c.loop-line.rest.now) (taken (offer_of c.args.names.now c.args.params.now c.args.n) (rows c.args.text.now)) c.in_default.ensures c.loop-line.invariant
