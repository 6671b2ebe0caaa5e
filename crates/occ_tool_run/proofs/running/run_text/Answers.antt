use Rattle.occ_tool_run.proofs.Scheduled.{run_bytes}
use Rattle.occ_tool_run.proofs.running.run_text.Goals as goal

pub returns-in-Bytes-clause-run : goal.returns-in-Bytes-clause-run
returns-in-Bytes-clause-run c = run_bytes c.run_bytes.result c.args.names c.args.accepted.now.program c.args.text.now c.in-Bytes.bytes _ c.in-Bytes.is c.as_slice.ensures.value c.run_bytes.ensures.run
