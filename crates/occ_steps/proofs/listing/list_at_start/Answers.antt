use Rattle.occ_tool_run.proofs.Scheduled.{known_from}
use Rattle.occ_steps.proofs.Telling.{accepted_first, refused_first}
use Rattle.occ_steps.proofs.listing.list_at_start.Goals as goal

pub behind-requires-clause-known : goal.behind-requires-clause-known
behind-requires-clause-known c = known_from c.args.program.now _ _ c.in-Ok.accepted.program c.in-Ok.ensures.accepted

pub returns-in_ok-schedule-in-Ok-clause-lists : goal.returns-in_ok-schedule-in-Ok-clause-lists
returns-in_ok-schedule-in-Ok-clause-lists c = accepted_first c.behind.result c.args.program.now _ c.in-Ok.accepted.program c.in_ok-schedule-in-Ok.schedule c.in-Ok.ensures.accepted
    c.in_ok-schedule-in-Ok.ensures.start c.behind.ensures.behind

pub returns-in-Err-clause-lists : goal.returns-in-Err-clause-lists
returns-in-Err-clause-lists c = refused_first c.refuse.result c.args.program.now _ c.in-Err.refusal c.refuse.ensures.refused c.in-Err.ensures.refused
