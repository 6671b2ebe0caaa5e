use Rattle.std.proofs.Common.{◌∙◌, sym, subst}
use Rattle.occ_tool_run.specs.occ_call.Ran.{IsOwnStatus}
use Rattle.occ_lts.proofs.comparing.traces.Goals as goal

pub returns-clause-answers : goal.returns-clause-answers
returns-clause-answers c = λ one two j k. record {
  answer = c.in_ok-answer.answer;
  is = c.in_ok-answer.ensures.compares one two j k;
  status_is = c.status.ensures;
  text_is = c.in_ok-text.ensures;
}

pub returns-clause-status : goal.returns-clause-status
returns-clause-status c = subst IsOwnStatus (sym c.status.ensures) c.in_ok-answer.ensures.status

pub returns-clause-usage : goal.returns-clause-usage
returns-clause-usage c = λ two. c.in_ok-answer.ensures.usage (sym c.status.ensures ∙ two)
