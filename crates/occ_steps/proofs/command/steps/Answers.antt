use Rattle.occ_steps.proofs.Telling.{status_told, tells_all}
use Rattle.occ_steps.proofs.command.steps.Goals as goal

pub returns-clause-answers : goal.returns-clause-answers
returns-clause-answers c = tells_all c.reply.result c.args.program.now c.args.schedule.now c.in_ok-found.found c.in_ok-found.ensures.lists c.reply.ensures.status c.reply.ensures.text

pub returns-clause-status : goal.returns-clause-status
returns-clause-status c = status_told c.reply.result c.in_ok-found.found c.in_ok-found.ensures.sayable c.reply.ensures.status
