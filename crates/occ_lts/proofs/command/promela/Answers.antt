use Rattle.std.proofs.Common.{◌≡◌}
use Rattle.occ_lts.proofs.Answering.{accepted_answer, refused_answer}
use Rattle.occ_lts.proofs.command.promela.Goals as goal

pub returns-in-Ok-clause-answers : goal.returns-in-Ok-clause-answers
returns-in-Ok-clause-answers c = accepted_answer (λ names p status text. status ≡ 0) c.write_model.result c.args.program.now _ c.in-Ok.accepted.program c.in-Ok.ensures.accepted c.write_model.ensures

pub returns-in-Err-clause-answers : goal.returns-in-Err-clause-answers
returns-in-Err-clause-answers c = refused_answer (λ names p status text. status ≡ 0) c.refuse.result c.args.program.now _ c.in-Err.refusal c.in-Err.ensures.refused c.refuse.ensures.refusal
