use Rattle.std.proofs.Common.{map, string_bytes}
use Rattle.occ_call.proofs.Leaving.{left}
use Rattle.occ_tool_run.specs.Answers.{Answers}
use Rattle.occ_tool_run.proofs.top.run.Goals as goal

pub returns-clause-answer : goal.returns-clause-answer
returns-clause-answer g c =
    left _ (λ files. Answers files (map string_bytes c.args.words.now)) c.make_reply-made.result c.send_reply.result _ _ _ c.make_reply-made.ensures.answers c.make_reply-made.ensures.written
    c.send_reply.ensures.end
