use Rattle.std.proofs.Common.{map, string_bytes}
use Rattle.occ_witness.proofs.from_call.Leaving.{err_is, memory_asked}
use Rattle.occ_workshop_run.proofs.Leaving.{asked_for}
use Rattle.occ_workshop_run.proofs.top.make_reply.Goals as goal

pub returns-in_err-reply-clause-asked : goal.returns-in_err-reply-clause-asked
returns-in_err-reply-clause-asked g c =
    memory_asked _ _ _ c.from_residual-in_err-reply.result (err_is _ _ c.from_residual-in_err-reply.ensures.1)
    (asked_for _ _ (map string_bytes c.args.words.now) c.command_in-command.result c.wanted.result c.wanted.ensures c.command_in-command.ensures c.in_ok-contents.ensures.asked)
