use Rattle.occ_tool_run.proofs.Accepting.{keeps_usage}
use Rattle.occ_tool_run.proofs.law.accepted_programs_keep_usage.Goals as goal

pub returns : goal.returns
returns c = keeps_usage
