use Rattle.occ_tool_laws.proofs.Witnessed.{witnesses_are_one}
use Rattle.occ_tool_laws.proofs.witness_laws.refusals_exclude_schedules.Goals as goal

pub returns : goal.returns
returns c = witnesses_are_one c.one_answer.ensures
