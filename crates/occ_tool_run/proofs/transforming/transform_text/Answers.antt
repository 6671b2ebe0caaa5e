use Rattle.occ_tool_run.proofs.Engine.{transform_bytes}
use Rattle.occ_tool_run.proofs.transforming.transform_text.Goals as goal

pub returns-in-Bytes-clause-transformed : goal.returns-in-Bytes-clause-transformed
returns-in-Bytes-clause-transformed c =
    transform_bytes c.transform_bytes.result c.args.names c.args.accepted.now.program c.args.text.now c.in-Bytes.bytes _ c.in-Bytes.is c.as_slice.ensures.value c.transform_bytes.ensures.transformed
