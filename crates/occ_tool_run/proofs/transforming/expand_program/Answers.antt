use Rattle.occ_run_schedule.proofs.from_usage.Law.{faultless_keeps}
use Rattle.occ_tool_run.proofs.Engine.{derived_of, expanded_written, expansion_fault, par_expanded, path_refused}
use Rattle.occ_tool_run.proofs.transforming.expand_program.Goals as goal

pub script-requires-clause-outcome : goal.script-requires-clause-outcome
script-requires-clause-outcome c = derived_of c.moves_are_steps.ensures c.args.accepted.now.program c.in-Ok.outcome c.in-Ok.ensures.outcome

pub script-requires-clause-known : goal.script-requires-clause-known
script-requires-clause-known c =
    let p = c.args.accepted.now.program in
    expanded_written c.kept_parts_have_known_names.ensures c.expansions_have_known_names.ensures c.args.names.now p c.args.path.now
    c.in-Ok.outcome (faultless_keeps p c.args.accepted.now.kept) c.requires c.in-Ok.ensures.expanded c.in-Ok.ensures.outcome

pub returns-in-Ok-clause-expanded : goal.returns-in-Ok-clause-expanded
returns-in-Ok-clause-expanded c =
    par_expanded c.script.result c.args.names.now c.args.accepted.now.program c.args.path.now c.in-Ok.outcome c.in-Ok.ensures.expanded
    c.script.ensures.written

pub refuse_path-requires : goal.refuse_path-requires
refuse_path-requires c = expansion_fault c.args.accepted.now.program c.args.path.now c.in-Err.fault c.in-Err.ensures.stopped

pub returns-in-Err-clause-expanded : goal.returns-in-Err-clause-expanded
returns-in-Err-clause-expanded c =
    path_refused c.refuse_path.result c.args.names.now c.args.accepted.now.program c.args.path.now c.in-Err.fault c.in-Err.ensures.stopped
    c.refuse_path.ensures.told
