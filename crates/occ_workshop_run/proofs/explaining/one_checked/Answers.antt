use Rattle.std.proofs.lemmas.Result.{IfOk-weaker}
use Rattle.occ_workshop_run.specs.Explained.{first_checked, second_checked}
use Rattle.occ_workshop_run.proofs.explaining.one_checked.Goals as goal

pub returns-then-reply-eq3-clause-answers : goal.returns-then-reply-eq3-clause-answers
returns-then-reply-eq3-clause-answers c = λ one two j k. first_checked (c.in_ok-reply.ensures.answers one j) c.if-reply-eq3.true

pub returns-clause-answers : goal.returns-clause-answers
returns-clause-answers c =
    IfOk-weaker c.check-2.result _ _ (λ reply done one two j k. second_checked (done two k)) c.check-2.ensures.answers
