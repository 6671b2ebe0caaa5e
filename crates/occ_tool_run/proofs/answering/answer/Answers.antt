use Rattle.std.proofs.Common.{IfOk, subst, sym}
use Rattle.std.proofs.lemmas.Result.{IfOk-weaker}
use Rattle.occ_tool_run.specs.Replies.{IsAnswerOf}
use Rattle.occ_tool_run.proofs.answering.answer.Goals as goal

pub returns-in-Normalise-clause-answers : goal.returns-in-Normalise-clause-answers
returns-in-Normalise-clause-answers c =
    subst (λ command. IfOk c.normalise.result (IsAnswerOf command c.args.contents.now)) (sym c.in-Normalise.is)
    (IfOk-weaker c.normalise.result _ _ (λ answer done files loaded. done _ loaded) c.normalise.ensures.normalises)

pub returns-in-Deadlock-clause-answers : goal.returns-in-Deadlock-clause-answers
returns-in-Deadlock-clause-answers c =
    subst (λ command. IfOk c.seek.result (IsAnswerOf command c.args.contents.now)) (sym c.in-Deadlock.is)
    (IfOk-weaker c.seek.result _ _ (λ answer done files loaded. done _ loaded) c.seek.ensures.seeks)

pub returns-in-Expand-clause-answers : goal.returns-in-Expand-clause-answers
returns-in-Expand-clause-answers c =
    subst (λ command. IfOk c.expand.result (IsAnswerOf command c.args.contents.now)) (sym c.in-Expand.is)
    (IfOk-weaker c.expand.result _ _ (λ answer done files loaded. done _ loaded) c.expand.ensures.expands)

pub returns-in-Derive-clause-answers : goal.returns-in-Derive-clause-answers
returns-in-Derive-clause-answers c =
    subst (λ command. IfOk c.derive.result (IsAnswerOf command c.args.contents.now)) (sym c.in-Derive.is)
    (IfOk-weaker c.derive.result _ _ (λ answer done files loaded. done _ loaded) c.derive.ensures.derives)
