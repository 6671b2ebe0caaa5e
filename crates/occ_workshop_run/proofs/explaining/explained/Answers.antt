use Rattle.std.proofs.Common.{subst}
use Rattle.std.proofs.lemmas.Result.{IfOk-weaker}
use Rattle.occ_why.specs.Answers.{Replies}
use Rattle.occ_workshop_run.specs.Explained.{told, checked}
use Rattle.occ_workshop_run.proofs.explaining.explained.Goals as goal

pub returns-in-Some-clause-answers : goal.returns-in-Some-clause-answers
returns-in-Some-clause-answers c = λ file loaded. told (subst (Replies file) c.in-Some.is (c.in_ok-reply.ensures.answers file loaded))

pub returns-in-None-clause-answers : goal.returns-in-None-clause-answers
returns-in-None-clause-answers c =
    IfOk-weaker c.check.result _ _
    (λ reply done file loaded. checked (subst (Replies file) c.in-None.is (c.in_ok-reply.ensures.answers file loaded)) (done file loaded))
    c.check.ensures.answers
