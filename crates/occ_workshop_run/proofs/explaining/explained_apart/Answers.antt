use Rattle.std.proofs.Common.{subst}
use Rattle.std.proofs.lemmas.Result.{IfOk-weaker}
use Rattle.occ_why.specs.Answers.{RepliesApart}
use Rattle.occ_workshop_run.specs.Explained.{told_of_both, one_checked}
use Rattle.occ_workshop_run.proofs.explaining.explained_apart.Goals as goal

pub returns-in-Some-clause-answers : goal.returns-in-Some-clause-answers
returns-in-Some-clause-answers c =
    λ one two j k. told_of_both (subst (RepliesApart one two) c.in-Some.is (c.in_ok-reply.ensures.answers one two j k))

pub returns-in-None-clause-answers : goal.returns-in-None-clause-answers
returns-in-None-clause-answers c =
    IfOk-weaker c.one_checked.result _ _
    (λ reply done one two j k. one_checked (subst (RepliesApart one two) c.in-None.is (c.in_ok-reply.ensures.answers one two j k)) (done one two j k))
    c.one_checked.ensures.answers
