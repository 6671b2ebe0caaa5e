use Rattle.occ_tool_run.proofs.AsWritten.{measured_as}
use Rattle.occ_tool_run.specs.Stored.{seen}
use Rattle.occ_tool_run.proofs.measure.figures.Goals as goal

pub returns-clause-stressed : goal.returns-clause-stressed
returns-clause-stressed c = measured_as c.a_normal_text_is_its_tables.ensures c.args.shape c.args.stages c.args.names.now (seen c.args.accepted.now.program) c.in_ok-counts.counts c.in_ok-counts.ensures
