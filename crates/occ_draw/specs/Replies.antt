-- What a reply tells.
use Rattle.occ_tool_run.specs.occ_call.declared.replying.Reply.{Reply}
use Rattle.occ_draw.specs.Answers.{Told}

abbrev pub told_by : Reply → Told
told_by reply = record { status = reply.status; text = reply.text.items }
