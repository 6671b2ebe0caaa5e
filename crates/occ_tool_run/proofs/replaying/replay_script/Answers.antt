use Rattle.std.proofs.Common.{refl}
use Rattle.occ_tool_run.proofs.Scripted.{cause_named, joining, rejected_replay}
use Rattle.occ_tool_run.proofs.replaying.replay_script.Goals as goal

pub returns-in-Ok-clause-replayed : goal.returns-in-Ok-clause-replayed
returns-in-Ok-clause-replayed c = joining c.derivations_join_the_same.ensures c.args.script.now c.args.names c.in-Ok.joined c.in-Ok.joined.steps c.in-Ok.ensures refl

pub reject-requires : goal.reject-requires
reject-requires c = cause_named c.args.names c.args.script.now c.in-Err.cause c.requires.known c.in-Err.ensures

pub returns-in-Err-clause-replayed : goal.returns-in-Err-clause-replayed
returns-in-Err-clause-replayed c = rejected_replay c.reject.result c.args.script.now c.args.names _ c.in-Err.cause c.items.ensures c.reject.ensures.told c.in-Err.ensures
