use Rattle.occ_tool_run.proofs.Scripted.{replay_bytes}
use Rattle.occ_tool_run.proofs.replaying.replay.Goals as goal

pub returns-in-Bytes-clause-replays : goal.returns-in-Bytes-clause-replays
returns-in-Bytes-clause-replays c = replay_bytes c.replay_bytes.result c.args.text.now c.in-Bytes.bytes _ c.in-Bytes.is c.as_slice.ensures.value c.replay_bytes.ensures.replayed
