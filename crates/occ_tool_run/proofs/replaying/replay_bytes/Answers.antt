use Rattle.occ_tool_run.proofs.Scripted.{fault_or_memory_told, script_read, script_refused}
use Rattle.occ_tool_run.proofs.replaying.replay_bytes.Goals as goal

pub returns-in-Ok-clause-replayed : goal.returns-in-Ok-clause-replayed
returns-in-Ok-clause-replayed c = script_read c.replay_script.result c.args.bytes.now _ _ c.in-Ok.script c.new-names.ensures c.requires c.in-Ok.ensures.found c.replay_script.ensures.replayed

pub refuse_script-requires : goal.refuse_script-requires
refuse_script-requires c = fault_or_memory_told c.args.bytes.now _ c.in-Err.fault c.in-Err.ensures.refused

pub returns-in-Err-clause-replayed : goal.returns-in-Err-clause-replayed
returns-in-Err-clause-replayed c = script_refused c.refuse_script.result c.args.bytes.now _ c.in-Err.fault c.new-names.ensures c.requires c.refuse_script.ensures.told c.in-Err.ensures.refused
