-- What files are answered with: what `run` says where it refuses them, or the steps.
use Rattle.std.specs.Prelude.{ℕ, ◌≡◌, ◌≤◌, List, [], length, Option, Some, Ok, Err, Vec}
use Rattle.std.specs.declared.alloc.Global.{Global}
use Rattle.occ_stepped.specs.occ_run.Configurations.{Configuration, followed, moves_of, started}
use Rattle.occ_stepped.specs.occ_run_schedule.declared.following.Followed.TheVariants.{NoStep}
use Rattle.occ_stepped.specs.occ_run_schedule.declared.schedule.Schedule.{Schedule}
use Rattle.occ_stepped.specs.occ_run_schedule.declared.schedule.ScheduleFault.{ScheduleFault}
use Rattle.occ_stepped.specs.occ_run_schedule.Schedules.{schedule_read}
use Rattle.occ_stepped.specs.Shown.{IsStart, Shows}
use Rattle.occ_stepped.specs.occ_syntax.declared.scope.Program.{Program}
use Rattle.occ_tool_run.specs.declared.accept.Refusal.{Refusal}
use Rattle.occ_tool_run.specs.declared.answer.Answer.{Answer}
use Rattle.occ_tool_run.specs.declared.answer.Answer.TheVariants.{Stepped}
use Rattle.occ_stepped.specs.occ_behaviour.declared.behaviour.Side.TheVariants.{First}
use Rattle.occ_tool_run.specs.Accepts.{IsAccepted}
use Rattle.occ_tool_run.specs.Answers.{Steps, Takes}
use Rattle.occ_tool_run.specs.occ_call.Files.{most_bytes}
use Rattle.occ_tool_run.specs.Judged.{IsRefusalAnswer}
use Rattle.occ_tool_run.specs.Runs.{IsRun, IsScheduleRefusal}
use Rattle.occ_tool_run.specs.Stored.{seen}
use Rattle.occ_tool_run.specs.Texts.{IsPrintable, status_of, text_of}
use Rattle.occ_steps.specs.declared.finding.Finding.{Finding}
use Rattle.occ_steps.specs.declared.finding.Finding.TheVariants.{Refused, Shown}

-- the text shows the steps of where the schedule leads the program
pub record IsShown (names : List (List ℕ)) (p : Program) (s : Schedule) (text : List ℕ) : Type 0 where
  pub there : Configuration
  pub leads : followed 1 (started p s.state) s.steps ≡ Ok there
  pub shows : Shows names (moves_of there) text

-- The answer to two files, of a program and of a schedule: what `run` says where it refuses one of them or a step; else the steps where
-- the schedule leads.
pub data Lists (one two : Option (List ℕ)) (finding : Finding) : Type 0 where
  as_run : (answer : Answer) → Steps one two answer → status_of answer ≡ 3 → finding ≡ Refused answer → Lists one two finding
  shown : (bytes : List ℕ) (names : List (List ℕ)) (p : Program) (s : Schedule) (text : Vec ℕ Global) → two ≡ Some bytes → IsAccepted one [] names (seen p)
      → length bytes ≤ most_bytes → schedule_read p.params bytes ≡ Ok s → IsShown names p s text.items → finding ≡ Shown text → Lists one two finding

-- The answer to the file of a program: the refusal, or the steps at the start.
pub data ListsAtStart (file : Option (List ℕ)) (finding : Finding) : Type 0 where
  refused : (answer : Answer) → Takes First file [] (λ names p answer. ⊥) answer → finding ≡ Refused answer → ListsAtStart file finding
  shown_at_start : (names : List (List ℕ)) (p : Program) (s : Schedule) (text : Vec ℕ Global) → IsAccepted file [] names (seen p) → IsStart s
      → IsShown names p s text.items → finding ≡ Shown text → ListsAtStart file finding

-- ---- the steps of the answer

-- the answer that refuses the program
abbrev pub IsRefusedBy : List (List ℕ) → Refusal → Finding → Type 0
IsRefusedBy names refusal (Refused answer) = IsRefusalAnswer names First refusal answer
IsRefusedBy names refusal (Shown text) = ⊥

-- the answer that refuses the schedule
abbrev pub IsScheduleRefused : ScheduleFault → Finding → Type 0
IsScheduleRefused fault (Refused answer) = IsScheduleRefusal fault answer
IsScheduleRefused fault (Shown text) = ⊥

-- The steps where the schedule leads the program; or that a step, counted from 1, is the first that isn't there.
abbrev pub IsBehind : List (List ℕ) → Program → Schedule → Finding → Type 0
IsBehind names p s (Refused answer) = (k : ℕ) × (followed 1 (started p s.state) s.steps ≡ Err k) × (answer ≡ Stepped names (NoStep k))
IsBehind names p s (Shown text) = IsShown names p s text.items

-- The answer to an accepted program and the bytes of a file that is to be a schedule.
pub data ListsIn (bytes : List ℕ) (names : List (List ℕ)) (p : Program) (finding : Finding) : Type 0 where
  as_run_in : (answer : Answer) → IsRun bytes names p answer → status_of answer ≡ 3 → finding ≡ Refused answer → ListsIn bytes names p finding
  shown_in : (s : Schedule) (text : Vec ℕ Global) → length bytes ≤ most_bytes → schedule_read p.params bytes ≡ Ok s → IsShown names p s text.items
      → finding ≡ Shown text → ListsIn bytes names p finding

-- ---- the text of an answer

abbrev pub status_of_finding : Finding → ℕ
status_of_finding (Refused answer) = status_of answer
status_of_finding (Shown text) = 0

abbrev pub text_of_finding : Finding → List ℕ
text_of_finding (Refused answer) = text_of answer
text_of_finding (Shown text) = text.items

-- the answer can be written: a refusal can be, and has the status of one
abbrev pub IsSayable : Finding → Type 0
IsSayable (Refused answer) = IsPrintable answer × (status_of answer ≡ 3)
IsSayable (Shown text) = Unit {0}
