use Rattle.occ_tool_run.proofs.Scheduled.{known_from}
use Rattle.occ_steps.proofs.Telling.{accepted_finding, refused_finding}
use Rattle.occ_steps.proofs.listing.list.Goals as goal

pub list_in-requires-clause-known : goal.list_in-requires-clause-known
list_in-requires-clause-known c = known_from c.args.program.now _ _ c.in-Ok.accepted.program c.in-Ok.ensures.accepted

pub returns-in-Ok-clause-lists : goal.returns-in-Ok-clause-lists
returns-in-Ok-clause-lists c = accepted_finding c.list_in.result c.args.program.now c.args.text.now _ c.in-Ok.accepted.program c.in-Ok.ensures.accepted c.list_in.ensures.lists

pub returns-in-Err-clause-lists : goal.returns-in-Err-clause-lists
returns-in-Err-clause-lists c = refused_finding c.refuse.result c.args.program.now c.args.text.now _ c.in-Err.refusal c.refuse.ensures.refused c.in-Err.ensures.refused
