use Rattle.std.proofs.Common.{◌≡◌, ◌+◌, ◌≤◌, length}
use Rattle.occ_behaviour_read.specs.Claims.{bare_lines}
use Rattle.occ_run_schedule.specs.Schedules.{steps_from}
use Rattle.occ_run_schedule.proofs.Stepping.{prefixed}
use Rattle.occ_run_schedule.proofs.schedule.steps_of.Given as goal

abbrev pub invariant-lines : goal.invariant-lines
invariant-lines l = (prefixed l.steps (steps_from l.before (bare_lines l.rest)) ≡ steps_from 2 (bare_lines l.text)) × (l.before + length l.rest ≤ 65538)

abbrev pub decreases-lines : goal.decreases-lines
decreases-lines l = length l.rest
