use Rattle.std.proofs.Common.{IfOk, subst, sym}
use Rattle.std.proofs.lemmas.Result.{IfOk-weaker}
use Rattle.occ_workshop_run.specs.Answers.{IsReplyTo}
use Rattle.occ_workshop_run.proofs.answering.reply.Goals as goal

pub returns-in-Check-clause-answers : goal.returns-in-Check-clause-answers
returns-in-Check-clause-answers c =
    subst (λ command. IfOk c.check.result (IsReplyTo command c.args.contents.now)) (sym c.in-Check.is) (IfOk-weaker c.check.result _ _ (λ reply done files loaded. done _ loaded) c.check.ensures.answers)

pub returns-in-Aut-clause-answers : goal.returns-in-Aut-clause-answers
returns-in-Aut-clause-answers c =
    subst (λ command. IfOk c.aut.result (IsReplyTo command c.args.contents.now)) (sym c.in-Aut.is) (IfOk-weaker c.aut.result _ _ (λ reply done files loaded. done _ loaded) c.aut.ensures.answers)

pub returns-in-Promela-clause-answers : goal.returns-in-Promela-clause-answers
returns-in-Promela-clause-answers c =
    subst (λ command. IfOk c.promela.result (IsReplyTo command c.args.contents.now)) (sym c.in-Promela.is) (IfOk-weaker c.promela.result _ _ (λ reply done files loaded. done _ loaded) c.promela.ensures.answers)

pub returns-in-Steps-clause-answers : goal.returns-in-Steps-clause-answers
returns-in-Steps-clause-answers c =
    subst (λ command. IfOk c.steps_at_start.result (IsReplyTo command c.args.contents.now)) (sym c.in-Steps.is) (IfOk-weaker c.steps_at_start.result _ _ (λ reply done files loaded. done _ loaded) c.steps_at_start.ensures.answers)

pub returns-in-StepsAfter-clause-answers : goal.returns-in-StepsAfter-clause-answers
returns-in-StepsAfter-clause-answers c =
    subst (λ command. IfOk c.steps.result (IsReplyTo command c.args.contents.now)) (sym c.in-StepsAfter.is) (IfOk-weaker c.steps.result _ _ (λ reply done files loaded. done _ _ loaded.0 loaded.1) c.steps.ensures.answers)

pub returns-in-Why-clause-answers : goal.returns-in-Why-clause-answers
returns-in-Why-clause-answers c =
    subst (λ command. IfOk c.explained.result (IsReplyTo command c.args.contents.now)) (sym c.in-Why.is) (IfOk-weaker c.explained.result _ _ (λ reply done files loaded. done _ loaded) c.explained.ensures.answers)

pub returns-in-WhyApart-clause-answers : goal.returns-in-WhyApart-clause-answers
returns-in-WhyApart-clause-answers c =
    subst (λ command. IfOk c.explained_apart.result (IsReplyTo command c.args.contents.now)) (sym c.in-WhyApart.is) (IfOk-weaker c.explained_apart.result _ _ (λ reply done files loaded. done _ _ loaded.0 loaded.1) c.explained_apart.ensures.answers)

pub returns-in-Traces-clause-answers : goal.returns-in-Traces-clause-answers
returns-in-Traces-clause-answers c =
    subst (λ command. IfOk c.traces.result (IsReplyTo command c.args.contents.now)) (sym c.in-Traces.is) (IfOk-weaker c.traces.result _ _ (λ reply done files loaded. done _ _ loaded.0 loaded.1) c.traces.ensures.answers)

pub returns-in-Deterministic-clause-answers : goal.returns-in-Deterministic-clause-answers
returns-in-Deterministic-clause-answers c =
    subst (λ command. IfOk c.deterministic.result (IsReplyTo command c.args.contents.now)) (sym c.in-Deterministic.is) (IfOk-weaker c.deterministic.result _ _ (λ reply done files loaded. done _ loaded) c.deterministic.ensures.answers)
