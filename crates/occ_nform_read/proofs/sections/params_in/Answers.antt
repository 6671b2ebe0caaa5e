use Rattle.std.proofs.Common.{[]}
use Rattle.occ_nform_table.specs.occ_lex.Rows.{rows}
use Rattle.occ_nform_table.specs.Reading.{params_in}
use Rattle.occ_nform_read.proofs.Steps.{params_goes, params_stops, params_ends}
use Rattle.occ_nform_read.proofs.sections.params_in.Goals as goal

pub returns-in_default-next_param-clause-header : goal.returns-in_default-next_param-clause-header
returns-in_default-next_param-clause-header c =
    params_stops c.loop-line.names c.loop-line.params c.items.result.now (rows c.loop-line.rest.now) c.in-Some.line.now (rows c.in-Some.after.now) (params_in c.args.names.now [] (rows c.args.text.now)) c.in-Some.ensures.0 c.items.ensures c.in_default-next_param.ensures c.loop-line.invariant.so_far

pub loop-line-preserved : goal.loop-line-preserved
loop-line-preserved c =
    let goes = params_goes c.loop-line.names _ c.loop-line.params c.items.result.now _ (rows c.loop-line.rest.now) c.in-Some.line.now (rows c.in-Some.after.now) c.in-Some-next_param.name.now c.in-Some-next_param.kind c.in_ok-name.name
    (params_in c.args.names.now [] (rows c.args.text.now)) c.in-Some.ensures.0 c.items.ensures c.in-Some-next_param.ensures c.in_ok-name.ensures.number c.in_ok-name.ensures.table c.in_ok-push.ensures.ok
    (record { so_far = c.loop-line.invariant.so_far; interface = c.loop-line.invariant.interface; apart = c.loop-line.invariant.apart }) in
    record { so_far = goes.so_far; interface = goes.interface; apart = goes.apart }

pub returns-clause-header : goal.returns-clause-header
returns-clause-header c = params_ends c.loop-line.names c.loop-line.params (rows c.loop-line.rest.now) (params_in c.args.names.now [] (rows c.args.text.now)) c.in_default.ensures c.loop-line.invariant.so_far
