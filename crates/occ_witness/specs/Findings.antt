-- What two files are answered with, of a program and of a behaviour: a schedule that shows it, or what `belongs` says.
use Rattle.std.specs.Prelude.{ℕ, ◌≡◌, ◌≢◌, ◌≤◌, true, false, List, [], length, Option, Some, codes}
use Rattle.occ_tool_run.specs.occ_behaviour.declared.behaviour.Behaviour.{Behaviour}
use Rattle.occ_tool_run.specs.occ_behaviour.declared.behaviour.Side.TheVariants.{First, Second}
use Rattle.occ_tool_run.specs.occ_behaviour_read.Claims.{bare_lines}
use Rattle.occ_tool_run.specs.occ_behaviour_read.declared.claim.ClaimFault.{ClaimFault}
use Rattle.occ_tool_run.specs.occ_behaviour_read.Behaviours.{IsBehaviourText}
use Rattle.occ_tool_run.specs.occ_run_schedule.declared.witnessing.Witness.{Witness}
use Rattle.occ_tool_run.specs.occ_run_schedule.declared.witnessing.Witness.TheVariants as witness
use Rattle.occ_tool_run.specs.occ_run_schedule.Witnesses.{HasIt, IsWitness}
use Rattle.occ_tool_run.specs.occ_syntax.declared.scope.Program.{Program}
use Rattle.occ_tool_run.specs.declared.accept.Refusal.{Refusal}
use Rattle.occ_tool_run.specs.declared.answer.Answer.{Answer}
use Rattle.occ_tool_run.specs.declared.answer.Answer.TheVariants.{Member}
use Rattle.occ_tool_run.specs.Accepts.{IsAccepted}
use Rattle.occ_tool_run.specs.Answers.{IsJudged, Judges}
use Rattle.occ_tool_run.specs.occ_call.Files.{most_bytes}
use Rattle.occ_tool_run.specs.Judged.{IsClaimRefusal, IsRefusalAnswer}
use Rattle.occ_tool_run.specs.Stored.{seen}
use Rattle.occ_tool_run.specs.Texts.{IsPrintable, refusal_text, status_of, text_of}
use Rattle.occ_witness.specs.declared.finding.Finding.{Finding}
use Rattle.occ_witness.specs.declared.finding.Finding.TheVariants.{Told, Schedule, Long}

-- what is told of a witness: the text of a schedule, NO, or that the schedule is too long
abbrev pub finding_of : Witness → Finding
finding_of (witness.Schedule text) = Schedule text
finding_of witness.Outside = Told (Member false)
finding_of witness.Long = Long

-- The bytes are those of a behaviour, which the accepted program has, and this is told of its witness: a schedule that shows it, or
-- that the one found is too long.
pub record IsFound (bytes : List ℕ) (names : List (List ℕ)) (p : Program) (finding : Finding) : Type 0 where
  pub behaviour : Behaviour
  pub shown_by : Witness
  pub short : length bytes ≤ most_bytes
  pub written : IsBehaviourText names p.params behaviour (bare_lines bytes)
  pub has : HasIt p behaviour
  pub is : IsWitness p behaviour shown_by
  pub finding_is : finding ≡ finding_of shown_by

-- The answer to an accepted program and the bytes of a file that is to be a behaviour. Where `belongs` doesn't say YES, it is what that
-- says.
pub data FindsIn (bytes : List ℕ) (names : List (List ℕ)) (p : Program) (finding : Finding) : Type 0 where
  as_judged : (answer : Answer) → IsJudged bytes names (seen p) answer → answer ≢ Member true → finding ≡ Told answer
      → FindsIn bytes names p finding
  found_in : IsFound bytes names p finding → FindsIn bytes names p finding

-- The answer to two files: of a program, and of a behaviour that may be one of the program's. Where `belongs` doesn't say YES, it is
-- what that says.
pub data Finds (one two : Option (List ℕ)) (finding : Finding) : Type 0 where
  as_belongs : (answer : Answer) → Judges one two answer → answer ≢ Member true → finding ≡ Told answer → Finds one two finding
  found : (bytes : List ℕ) (names : List (List ℕ)) (p : Program) → two ≡ Some bytes → IsAccepted one [] names (seen p)
      → IsFound bytes names p finding → Finds one two finding

-- the answer that refuses the program
abbrev pub IsRefusedBy : List (List ℕ) → Refusal → Finding → Type 0
IsRefusedBy names refusal (Told answer) = IsRefusalAnswer names First refusal answer
IsRefusedBy names refusal (Schedule text) = ⊥
IsRefusedBy names refusal Long = ⊥

-- the answer that refuses the behaviour
abbrev pub IsClaimRefused : ClaimFault → Finding → Type 0
IsClaimRefused fault (Told answer) = IsClaimRefusal fault answer
IsClaimRefused fault (Schedule text) = ⊥
IsClaimRefused fault Long = ⊥

-- ---- the text of an answer

abbrev pub status_of_finding : Finding → ℕ
status_of_finding (Told answer) = status_of answer
status_of_finding (Schedule text) = 0
status_of_finding Long = 3

abbrev pub text_of_finding : Finding → List ℕ
text_of_finding (Told answer) = text_of answer
text_of_finding (Schedule text) = text.items
text_of_finding Long = refusal_text Second 1 (codes "Long")

-- the answer can be written: what `belongs` says can be, and has the status of NO or of a refusal
abbrev pub IsSayable : Finding → Type 0
IsSayable (Told answer) = IsPrintable answer × (status_of answer ≤ 3) × (status_of answer ≢ 2)
IsSayable (Schedule text) = Unit {0}
IsSayable Long = Unit {0}
