use Rattle.occ_tool_run.proofs.Judging.{text_sayable}
use Rattle.occ_tool_run.proofs.accept.accept.Goals as goal

pub returns-in-Bytes-clause-sayable : goal.returns-in-Bytes-clause-sayable
returns-in-Bytes-clause-sayable c = text_sayable c.accept_text.result _ _ _ c.accept_text.ensures.refused
