use Rattle.occ_lts.specs.Answers.{IsGraphOf}
use Rattle.occ_lts.proofs.Answering.{accepted_answer, refused_answer}
use Rattle.occ_lts.proofs.command.aut.Goals as goal

pub returns-in-Ok-clause-answers : goal.returns-in-Ok-clause-answers
returns-in-Ok-clause-answers c = accepted_answer IsGraphOf c.write.result c.args.program.now _ c.in-Ok.accepted.program c.in-Ok.ensures.accepted c.write.ensures.graph

pub returns-in-Err-clause-answers : goal.returns-in-Err-clause-answers
returns-in-Err-clause-answers c = refused_answer IsGraphOf c.refuse.result c.args.program.now _ c.in-Err.refusal c.in-Err.ensures.refused c.refuse.ensures.refusal
