use Rattle.occ_tool_run.proofs.Members.{judge_bytes}
use Rattle.occ_tool_run.proofs.member.judge_text.Goals as goal

pub returns-in-Bytes-clause-judged : goal.returns-in-Bytes-clause-judged
returns-in-Bytes-clause-judged c =
    judge_bytes c.judge_bytes.result c.args.names.now c.args.accepted.now.program c.args.text.now c.in-Bytes.bytes _ c.in-Bytes.is c.as_slice.ensures.value c.judge_bytes.ensures.judged

pub judge_bytes-requires-clause-distinct : goal.judge_bytes-requires-clause-distinct
judge_bytes-requires-clause-distinct c = c.requires.distinct
