use Rattle.occ_lts.specs.Determined.{IsTold}
use Rattle.occ_lts.proofs.Answering.{accepted_answer, refused_answer, refused_status, told_status}
use Rattle.occ_lts.proofs.determining.deterministic.Goals as goal

pub returns-in-Ok-clause-answers : goal.returns-in-Ok-clause-answers
returns-in-Ok-clause-answers c = accepted_answer IsTold c.tell.result c.args.program.now _ c.in-Ok.accepted.program c.in-Ok.ensures.accepted c.tell.ensures.told

pub returns-in-Ok-clause-status : goal.returns-in-Ok-clause-status
returns-in-Ok-clause-status c = told_status c.tell.result c.tell.ensures.status

pub returns-in-Err-clause-answers : goal.returns-in-Err-clause-answers
returns-in-Err-clause-answers c = refused_answer IsTold c.refuse.result c.args.program.now _ c.in-Err.refusal c.in-Err.ensures.refused c.refuse.ensures.refusal

pub returns-in-Err-clause-status : goal.returns-in-Err-clause-status
returns-in-Err-clause-status c = refused_status c.refuse.result c.refuse.ensures.status
