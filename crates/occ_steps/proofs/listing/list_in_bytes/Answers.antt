use Rattle.std.proofs.Common.{◌∙◌, ap}
use Rattle.occ_steps.proofs.Telling.{listed_behind, listed_refused}
use Rattle.occ_steps.proofs.listing.list_in_bytes.Goals as goal

pub returns-in-Ok-clause-lists : goal.returns-in-Ok-clause-lists
returns-in-Ok-clause-lists c = listed_behind c.behind.result c.args.bytes.now c.args.names _ c.args.program.0.now.program c.in-Ok.schedule (c.items.ensures ∙ ap (λ p. p.params) c.program-accepted.ensures.same)
    c.requires.text c.in-Ok.ensures.read c.behind.ensures.behind

pub returns-in-Err-clause-lists : goal.returns-in-Err-clause-lists
returns-in-Err-clause-lists c = listed_refused c.refuse_schedule.result c.args.bytes.now c.args.names _ c.args.program.0.now.program c.in-Err.fault (c.items.ensures ∙ ap (λ p. p.params) c.program-accepted.ensures.same)
    c.requires.text c.refuse_schedule.ensures.refused c.in-Err.ensures.read
