use Rattle.occ_tool_run.proofs.Members.{check_bytes}
use Rattle.occ_tool_run.proofs.normal.check.Goals as goal

pub returns-in-Bytes-clause-checks : goal.returns-in-Bytes-clause-checks
returns-in-Bytes-clause-checks c = check_bytes c.check_bytes.result c.args.text.now c.in-Bytes.bytes _ c.in-Bytes.is c.as_slice.ensures.value c.check_bytes.ensures.checked
