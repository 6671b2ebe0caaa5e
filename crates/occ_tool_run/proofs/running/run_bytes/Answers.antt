use Rattle.std.proofs.Common.{◌∙◌, ap}
use Rattle.occ_tool_run.proofs.Scheduled.{parameters_named, schedule_refused, schedule_run}
use Rattle.occ_tool_run.proofs.running.run_bytes.Goals as goal

pub returns-in_ok-followed-in-Ok-clause-run : goal.returns-in_ok-followed-in-Ok-clause-run
returns-in_ok-followed-in-Ok-clause-run c =
    schedule_run c.args.bytes.now c.args.names _ c.args.accepted.now.program c.in-Ok.schedule c.in_ok-followed-in-Ok.followed (c.items.ensures ∙ ap (λ p. p.params) c.program-program.ensures.same)
    c.requires.short c.in-Ok.ensures.read c.in_ok-followed-in-Ok.ensures.followed

pub returns-in_ok-followed-in-Ok-clause-printable : goal.returns-in_ok-followed-in-Ok-clause-printable
returns-in_ok-followed-in-Ok-clause-printable c =
    c.in_ok-followed-in-Ok.ensures.named c.args.names (parameters_named c.args.names c.args.accepted.now.program c.requires.known)

pub returns-in-Err-clause-run : goal.returns-in-Err-clause-run
returns-in-Err-clause-run c =
    schedule_refused c.refuse_schedule.result c.args.bytes.now c.args.names _ c.args.accepted.now.program c.in-Err.fault (c.items.ensures ∙ ap (λ p. p.params) c.program-program.ensures.same)
    c.requires.short c.refuse_schedule.ensures.told c.in-Err.ensures.read
