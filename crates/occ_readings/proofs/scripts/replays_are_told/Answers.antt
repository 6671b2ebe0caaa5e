use Rattle.occ_readings.proofs.Told.{fault_told, joined_decided, rejected_decided, script_told}
use Rattle.occ_readings.proofs.scripts.replays_are_told.Goals as goal

pub returns-in-Ok-replay : goal.returns-in-Ok-replay
returns-in-Ok-replay c = script_told c.given_back.result c.args.text.now _ _ c.in-Ok.script c.new-names.ensures c.in-Ok.ensures.found
    (joined_decided c.given_back.result c.in-Ok.script c.in-Ok-replay.joined c.in-Ok-replay.ensures (c.derivations_join_the_same.ensures _ _ _ c.in-Ok-replay.ensures.joins))

pub returns-in-Ok : goal.returns-in-Ok
returns-in-Ok c = script_told c.rejected.result c.args.text.now _ _ c.in-Ok.script c.new-names.ensures c.in-Ok.ensures.found
    (rejected_decided c.rejected.result c.in-Ok.script c.in-Err-replay.cause c.in-Err-replay.ensures c.rejected.ensures)

pub returns : goal.returns
returns c = fault_told c.found.result c.args.text.now _ c.in-Err.fault c.new-names.ensures c.in-Err.ensures.refused c.found.ensures
