use Rattle.std.proofs.Common.{sym, ◌∙◌}
use Rattle.occ_nform_table.specs.occ_lex.Rows.{rows}
use Rattle.occ_nform_table.specs.Lines.{accept_of}
use Rattle.occ_nform_table.specs.Reading.{taken}
use Rattle.occ_nform_read.proofs.Taking.{nothing_before, taken_goes, taken_stops, taken_ends}
use Rattle.occ_nform_read.proofs.reading.accepts_in.Goals as goal

pub loop-line-init : goal.loop-line-init
loop-line-init c = nothing_before c.new-sets.result (taken (accept_of c.args.names.now c.args.params.now) (rows c.args.text.now)) c.new-sets.ensures

pub loop-line-preserved : goal.loop-line-preserved
loop-line-preserved c = taken_goes (accept_of c.args.names.now c.args.params.now) c.loop-line.sets _ (rows c.loop-line.rest.now) c.in-Some.line.now (rows c.in-Some.after.now) _
    (taken (accept_of c.args.names.now c.args.params.now) (rows c.args.text.now)) c.in-Some.ensures.0 (sym c.in_ok-set.ensures ∙ c.in-Some-2.is) c.in_ok-push.ensures.ok c.loop-line.invariant

pub returns-in_default-2 : goal.returns-in_default-2
returns-in_default-2 c = taken_stops (accept_of c.args.names.now c.args.params.now) c.loop-line.sets (rows c.loop-line.rest.now) c.in-Some.line.now (rows c.in-Some.after.now)
    (taken (accept_of c.args.names.now c.args.params.now) (rows c.args.text.now)) c.in-Some.ensures.0 (sym c.in_ok-set.ensures ∙ c.in_default-2.is) c.loop-line.invariant

pub returns : goal.returns
returns c = taken_ends (accept_of c.args.names.now c.args.params.now) c.loop-line.sets (rows c.loop-line.rest.now) (taken (accept_of c.args.names.now c.args.params.now) (rows c.args.text.now)) c.in_default.ensures c.loop-line.invariant
