use Rattle.std.proofs.Common.{map, string_bytes, subst, sym}
use Rattle.occ_call.proofs.Leaving.{err_is, memory_asked}
use Rattle.occ_tool_run.specs.Replies.{AreStagesInRange}
use Rattle.occ_tool_run.proofs.Leaving.{asked_for, replied}
use Rattle.occ_tool_run.proofs.Stages.{fit}
use Rattle.occ_tool_run.proofs.top.make_reply.Goals as goal

pub reply-requires-clause-stages : goal.reply-requires-clause-stages
reply-requires-clause-stages g c = subst AreStagesInRange (sym c.in_ok-command.ensures) (fit (map string_bytes c.args.words.now))

pub returns-in_err-reply-clause-asked : goal.returns-in_err-reply-clause-asked
returns-in_err-reply-clause-asked g c =
    memory_asked _ _ _ c.from_residual-in_err-reply.result (err_is _ _ c.from_residual-in_err-reply.ensures.1)
    (asked_for _ _ (map string_bytes c.args.words.now) c.in_ok-command.command c.wanted.result c.wanted.ensures c.in_ok-command.ensures c.in_ok-contents.ensures.asked)

pub returns-clause-answers : goal.returns-clause-answers
returns-clause-answers g c =
    replied _ (map string_bytes c.args.words.now) c.in_ok-command.command c.wanted.result c.in_ok-contents.contents c.in_ok-reply.field-0 c.wanted.ensures c.in_ok-command.ensures
    c.in_ok-contents.ensures.loaded c.in_ok-reply.ensures.answers

pub returns-clause-asked : goal.returns-clause-asked
returns-clause-asked g c =
    asked_for _ _ (map string_bytes c.args.words.now) c.in_ok-command.command c.wanted.result c.wanted.ensures c.in_ok-command.ensures c.in_ok-contents.ensures.asked
