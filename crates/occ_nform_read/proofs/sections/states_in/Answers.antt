use Rattle.std.proofs.Common.{sym, ap, ◌∙◌, length}
use Rattle.occ_nform_table.specs.occ_lex.Rows.{rows}
use Rattle.occ_nform_table.specs.Reading.{states_in}
use Rattle.occ_nform_read.proofs.Steps.{states_goes, states_stops, states_ends}
use Rattle.occ_nform_read.proofs.sections.states_in.Goals as goal

pub returns-in_default-2 : goal.returns-in_default-2
returns-in_default-2 c =
    states_stops c.args.params.now c.args.n (length c.items.result.now) c.loop-line.states (rows c.loop-line.rest.now) c.in-Some.line.now (rows c.in-Some.after.now) (states_in c.args.params.now c.args.n 0 (rows c.args.text.now))
    c.in-Some.ensures.0 (ap length c.items.ensures) (sym c.in_ok-row.ensures ∙ c.in_default-2.is) c.loop-line.invariant

pub loop-line-preserved : goal.loop-line-preserved
loop-line-preserved c =
    states_goes c.args.params.now c.args.n (length c.items.result.now) c.loop-line.states _ (rows c.loop-line.rest.now) c.in-Some.line.now (rows c.in-Some.after.now) c.in-Some-2.row (states_in c.args.params.now c.args.n 0 (rows c.args.text.now))
    c.in-Some.ensures.0 (ap length c.items.ensures) (sym c.in_ok-row.ensures ∙ c.in-Some-2.is) c.in_ok-push.ensures.ok c.loop-line.invariant

pub returns : goal.returns
returns c = states_ends c.args.params.now c.args.n c.loop-line.states (rows c.loop-line.rest.now) (states_in c.args.params.now c.args.n 0 (rows c.args.text.now)) c.in_default.ensures c.loop-line.invariant
