-- The answer to a program and a schedule.
use Rattle.std.specs.Prelude.{ℕ, ◌≡◌, ◌≤◌, ◌<◌, List, length, Ok, Err}
use Rattle.occ_run_schedule.specs.occ_behaviour.declared.behaviour.Side.TheVariants.{Second}
use Rattle.occ_run_schedule.specs.declared.following.Followed.{Followed}
use Rattle.occ_run_schedule.specs.Following.{IsFollowed}
use Rattle.occ_run_schedule.specs.declared.schedule.Schedule.{Schedule}
use Rattle.occ_run_schedule.specs.declared.schedule.ScheduleFault.{ScheduleFault}
use Rattle.occ_run_schedule.specs.declared.schedule.ScheduleFault.TheVariants as fault
use Rattle.occ_run_schedule.specs.Schedules.{schedule_read}
use Rattle.occ_syntax.specs.declared.scope.Program.{Program}
use Rattle.occ_tool_run.specs.declared.answer.Answer.{Answer}
use Rattle.occ_tool_run.specs.declared.answer.Answer.TheVariants.{TooLong, RefusedSchedule, Stepped}
use Rattle.occ_call.specs.Files.{most_bytes}

-- The answer to an accepted program and the bytes of a file that is to be a schedule.
pub data IsRun (bytes : List ℕ) (names : List (List ℕ)) (p : Program) (answer : Answer) : Type 0 where
  too_long_schedule : most_bytes < length bytes → answer ≡ TooLong Second → IsRun bytes names p answer
  faulty_schedule : (line : ℕ) → length bytes ≤ most_bytes → schedule_read p.params bytes ≡ Err line → answer ≡ RefusedSchedule line
      → IsRun bytes names p answer
  followed_schedule : (s : Schedule) (f : Followed) → length bytes ≤ most_bytes → schedule_read p.params bytes ≡ Ok s → IsFollowed p s f
      → answer ≡ Stepped names f → IsRun bytes names p answer

-- the answer that refuses a schedule
abbrev pub IsScheduleRefusal : ScheduleFault → Answer → Type 0
IsScheduleRefusal (fault.Form line) answer = answer ≡ RefusedSchedule line
IsScheduleRefusal fault.Memory answer = ⊥
