-- Which answer a command line has over the files.
use Rattle.std.specs.Prelude.{ℕ, ◌≡◌, ◌≤◌, ◌<◌, ◌↔◌, Bool, List, [], length, Option, None, Some, IsTrue, Vec}
use Rattle.std.specs.declared.alloc.Global.{Global}
use Rattle.std.specs.declared.cmp.Ordering.{Ordering}
use Rattle.std.specs.declared.cmp.Ordering.TheVariants.{Less, Equal, Greater}
use Rattle.occ_tool_words.specs.occ_parse.declared.fault.ParseFault.{ParseFault}
use Rattle.occ_run_schedule.specs.occ_usage.declared.fault.UsageFault.{UsageFault}
use Rattle.occ_run_schedule.specs.occ_behaviour.declared.behaviour.Behaviour.{Behaviour}
use Rattle.occ_run_schedule.specs.occ_behaviour.declared.behaviour.Side.{Side}
use Rattle.occ_run_schedule.specs.occ_behaviour.declared.behaviour.Side.TheVariants.{First, Second}
use Rattle.occ_run_schedule.specs.occ_behaviour.declared.behaviour.Verdict.{Verdict}
use Rattle.occ_run_schedule.specs.occ_behaviour.Members.{IsMember}
use Rattle.occ_refine.specs.Verdict.{IsVerdictOf}
use Rattle.occ_run_schedule.specs.occ_nform_table.declared.table.TableFault.{TableFault}
use Rattle.occ_replay.specs.occ_lex.Rows.{rows}
use Rattle.occ_run_schedule.specs.occ_nform_table.Normal.{Parts, table_fault}
use Rattle.occ_run_schedule.specs.occ_nform_table.declared.table.TableRow.{TableRow}
use Rattle.occ_run_schedule.specs.occ_behaviour_read.Claims.{bare_lines}
use Rattle.occ_run_schedule.specs.occ_behaviour_read.Stops.{StopsAt}
use Rattle.occ_run_schedule.specs.occ_behaviour_read.Behaviours.{AreBehaviourLines, IsBehaviourText}
use Rattle.occ_run_schedule.specs.occ_behaviour_read.Tables.{IsTableFault, IsTableOf, IsTableText, IsTextOf}
use Rattle.occ_tool_words.specs.occ_gen.declared.shape.Shape.{Shape}
use Rattle.occ_tool_words.specs.occ_gen.Programs.{program_text}
use Rattle.occ_read_renamed.specs.occ_nform.declared.figures.Counts.{Counts}
use Rattle.occ_read_renamed.specs.occ_nform.Counted.{counts_of}
use Rattle.occ_run_schedule.specs.occ_compare.declared.refined.Refined.{Refined as Refinement}
use Rattle.occ_run_schedule.specs.occ_compare.Programs.{IsRefinement, IsDeadlockAnswer}
use Rattle.occ_tool_words.specs.Words.{Job, same, normalise, normal, belongs, stress, refine, deadlock, replay, run, transform, expand, derive, job_of}
use Rattle.occ_tool_run.specs.declared.answer.Answer.{Answer}
use Rattle.occ_tool_run.specs.declared.answer.Answer.TheVariants.{Usage, Refused, Unusable, TooLong, RefusedTable, RefusedClaim, InterfacesDiffer, Compared, Written, Counted, Member, Stressed, Allowed, Sought}
use Rattle.occ_tool_run.specs.declared.judge.Question.{Question}
use Rattle.occ_tool_run.specs.declared.judge.Question.TheVariants.{WhetherSame, WhetherRefined}
use Rattle.occ_tool_run.specs.Accepts.{Holds, Program, IsAccepted, IsAcceptedText, IsRefused, IsUnusable}
use Rattle.occ_tool_run.specs.Derivations.{Replays}
use Rattle.occ_tool_run.specs.Derived.{IsDerived}
use Rattle.occ_tool_run.specs.Runs.{IsRun}
use Rattle.occ_tool_run.specs.Transforms.{IsExpandedTo, IsTransformed}
use Rattle.occ_call.specs.Files.{Files, most_bytes, most_table_bytes, order_of}
use Rattle.occ_tool_run.specs.Stored.{OfStored}
use Rattle.occ_tool_run.specs.Texts.{told}

-- What the answer is where a file's text is read as a program, with these names so far: the text is refused, or its program
-- breaks the rule of usage, or the program is accepted and the rest decides.
pub data Takes (place : Side) (file : Option (List ℕ)) (old : List (List ℕ)) (rest : List (List ℕ) → Program → Answer → Type 0) (answer : Answer) : Type 0 where
  refused : (fault : ParseFault) → IsRefused file old fault → answer ≡ Refused place fault → Takes place file old rest answer
  unusable : (new : List (List ℕ)) (line : ℕ) (fault : UsageFault) → IsUnusable file old new line fault → answer ≡ Unusable new place line fault → Takes place file old rest answer
  accepted : (new : List (List ℕ)) (program : Program) → IsAccepted file old new program → rest new program answer → Takes place file old rest answer

-- ---- two programs

-- the answer to two accepted programs
pub data Compares (p : Program) (names : List (List ℕ)) (q : Program) (answer : Answer) : Type 0 where
  apart : (p.params ≡ q.params → ⊥) → answer ≡ InterfacesDiffer → Compares p names q answer
  compared : (verdict : Verdict) → p.params ≡ q.params → IsVerdictOf p.params p.body q.body verdict → answer ≡ Compared names verdict → Compares p names q answer

-- the answer to two accepted programs, of which the second may refine the first
pub data Refines (p : Program) (names : List (List ℕ)) (q : Program) (answer : Answer) : Type 0 where
  other : (p.params ≡ q.params → ⊥) → answer ≡ InterfacesDiffer → Refines p names q answer
  allowed : (refined : Refinement) → p.params ≡ q.params → IsRefinement p.params p.body q.body refined → answer ≡ Allowed names refined → Refines p names q answer

-- what is asked of two accepted programs
abbrev pub Replies : Question → Program → List (List ℕ) → Program → Answer → Type 0
Replies WhetherSame = Compares
Replies WhetherRefined = Refines

-- The answer to two files of which the second is read first. The faults of the first still come before those of the second.
pub data Turned (question : Question) (one two : Option (List ℕ)) (answer : Answer) : Type 0 where
  refused_behind : (fault : ParseFault) → IsRefused two [] fault → Takes First one [] (λ names p a. a ≡ Refused Second fault) answer → Turned question one two answer
  unusable_behind : (new : List (List ℕ)) (line : ℕ) (fault : UsageFault) → IsUnusable two [] new line fault
      → Takes First one [] (λ names p a. a ≡ Unusable new Second line fault) answer → Turned question one two answer
  accepted_behind : (new : List (List ℕ)) (q : Program) → IsAccepted two [] new q → Takes First one new (λ names p. Replies question p names q) answer
      → Turned question one two answer

-- The answer to two files of which the first is read first, or the second, or which have one text, that is read once.
abbrev pub TakesBoth : Ordering → Question → Option (List ℕ) → Option (List ℕ) → Answer → Type 0
TakesBoth Less question one two answer = Takes First one [] (λ names p. Takes Second two names (Replies question p)) answer
TakesBoth Equal question one two answer = Takes First one [] (λ names p. Replies question p names p) answer
TakesBoth Greater question one two answer = Turned question one two answer

-- The answer to two files of whose programs this is asked. Both are there. They are read in the order of their bytes, so that
-- names have the same numbers whichever file is given first.
abbrev pub Settles : Question → Option (List ℕ) → Option (List ℕ) → Answer → Type 0
Settles question one two answer = Holds two (λ bytes. TakesBoth (order_of one two) question one two answer)

-- ---- where a program can be stuck

-- the answer tells where the accepted program can be stuck
pub record IsSought (names : List (List ℕ)) (p : Program) (answer : Answer) : Type 0 where
  pub found : Option Behaviour
  pub is : IsDeadlockAnswer p.params p.body found
  pub answer_is : answer ≡ Sought names found

-- the answer to a file whose program may be stuck
abbrev pub Seeks : Option (List ℕ) → Answer → Type 0
Seeks file answer = Takes First file [] IsSought answer

-- ---- the normal text of a program

-- the answer is the normal text of the accepted program
pub record IsNormalised (names : List (List ℕ)) (p : Program) (answer : Answer) : Type 0 where
  pub text : Vec ℕ Global
  pub is : IsTextOf names p.params p.body text.items
  pub answer_is : answer ≡ Written text

-- the answer to a file whose program's normal text is asked for
abbrev pub Normalises : Option (List ℕ) → Answer → Type 0
Normalises file answer = Takes First file [] IsNormalised answer

-- ---- a normal text

-- The answer to the bytes of a file that is to be a normal text. It is read with an empty table of names.
pub data IsChecked (bytes : List ℕ) (answer : Answer) : Type 0 where
  too_long_table : most_table_bytes < length bytes → answer ≡ TooLong First → IsChecked bytes answer
  faulty_table : (fault : TableFault) → length bytes ≤ most_table_bytes → IsTableFault (rows bytes) fault → answer ≡ RefusedTable fault → IsChecked bytes answer
  normal_table : (t : Parts) → length bytes ≤ most_table_bytes → IsTableText t (rows bytes) → table_fault t ≡ None → answer ≡ Counted (length t.rows) → IsChecked bytes answer

abbrev pub Checks : Option (List ℕ) → Answer → Type 0
Checks file answer = Holds file (λ bytes. IsChecked bytes answer)

-- ---- a program and a behaviour

-- the answer to an accepted program and the bytes of a file that is to be a behaviour
pub data IsJudged (bytes : List ℕ) (names : List (List ℕ)) (p : Program) (answer : Answer) : Type 0 where
  too_long_claim : most_bytes < length bytes → answer ≡ TooLong Second → IsJudged bytes names p answer
  faulty_claim : (line : ℕ) → length bytes ≤ most_bytes → StopsAt (AreBehaviourLines names p.params) (bare_lines bytes) line → answer ≡ RefusedClaim line → IsJudged bytes names p answer
  judged_claim : (b : Behaviour) (is : Bool) → length bytes ≤ most_bytes → IsBehaviourText names p.params b (bare_lines bytes) → IsTrue is ↔ IsMember p.params p.body b
      → answer ≡ Member is → IsJudged bytes names p answer

-- The answer to two files: of a program, and of a behaviour that may be one of the program's. Both are there, and the
-- program is judged first.
abbrev pub Judges : Option (List ℕ) → Option (List ℕ) → Answer → Type 0
Judges one two answer = Holds two (λ bytes. Takes First one [] (IsJudged bytes) answer)

-- The answer to two files: of a program, and of a schedule that its steps are to follow. Both are there, and the program is
-- judged first.
abbrev pub Steps : Option (List ℕ) → Option (List ℕ) → Answer → Type 0
Steps one two answer = Holds two (λ bytes. Takes First one [] (OfStored (IsRun bytes)) answer)

-- The answer to two files: of a program, and of orders that are to be followed from it. Both are there, and the program is judged
-- first.
abbrev pub Transforms : Option (List ℕ) → Option (List ℕ) → Answer → Type 0
Transforms one two answer = Holds two (λ bytes. Takes First one [] (OfStored (IsTransformed bytes)) answer)

-- the answer to a file, the PAR of whose program at a path is to be expanded
abbrev pub Expands : Option (List ℕ) → List ℕ → Answer → Type 0
Expands file path answer = Takes First file [] (OfStored (IsExpandedTo path)) answer

-- the answer to a file, whose program's normal program is to be derived
abbrev pub Derives : Option (List ℕ) → Answer → Type 0
Derives file answer = Takes First file [] (OfStored IsDerived) answer

-- ---- a generated program

-- the answer tells the figures of the normal text of the accepted program
pub record IsStressed (shape : Shape) (stages : ℕ) (names : List (List ℕ)) (p : Program) (answer : Answer) : Type 0 where
  pub counts : Counts
  pub rows : List TableRow
  pub states : List ℕ
  pub is : IsTableOf names p.params p.body rows states
  pub counts_are : counts ≡ counts_of (record { names = names; params = p.params; rows = rows; states = states })
  pub answer_is : answer ≡ Stressed shape stages counts

-- The answer to the order to measure a generated program, whose text is that of an accepted one.
pub record Stresses (shape : Shape) (stages : ℕ) (answer : Answer) : Type 0 where
  pub names : List (List ℕ)
  pub program : Program
  pub text : IsAcceptedText (program_text shape stages) [] names program
  pub stressed : IsStressed shape stages names program answer

-- ---- command lines

-- What the words ask for has this answer, or they don't fit.
pub data IsAnswer (files : Files) (words : List (List ℕ)) (answer : Answer) : Type 0 where
  usage : job_of words ≡ None → answer ≡ Usage → IsAnswer files words answer
  comparison : (first second : List ℕ) → job_of words ≡ Some (same first second) → Settles WhetherSame (files first) (files second) answer → IsAnswer files words answer
  normalisation : (program : List ℕ) → job_of words ≡ Some (normalise program) → Normalises (files program) answer → IsAnswer files words answer
  checking : (text : List ℕ) → job_of words ≡ Some (normal text) → Checks (files text) answer → IsAnswer files words answer
  membership : (program text : List ℕ) → job_of words ≡ Some (belongs program text) → Judges (files program) (files text) answer → IsAnswer files words answer
  stressing : (shape : Shape) (stages : ℕ) → job_of words ≡ Some (stress shape stages) → Stresses shape stages answer → IsAnswer files words answer
  refinement : (first second : List ℕ) → job_of words ≡ Some (refine first second) → Settles WhetherRefined (files first) (files second) answer → IsAnswer files words answer
  seeking : (program : List ℕ) → job_of words ≡ Some (deadlock program) → Seeks (files program) answer → IsAnswer files words answer
  replaying : (text : List ℕ) → job_of words ≡ Some (replay text) → Replays (files text) answer → IsAnswer files words answer
  running : (program text : List ℕ) → job_of words ≡ Some (run program text) → Steps (files program) (files text) answer → IsAnswer files words answer
  transforming : (program text : List ℕ) → job_of words ≡ Some (transform program text) → Transforms (files program) (files text) answer → IsAnswer files words answer
  expanding : (program path : List ℕ) → job_of words ≡ Some (expand program path) → Expands (files program) path answer → IsAnswer files words answer
  normalisation_by_laws : (program : List ℕ) → job_of words ≡ Some (derive program) → Derives (files program) answer → IsAnswer files words answer

-- The same by what is asked for.
abbrev pub IsAnswerTo : Files → Option Job → Answer → Type 0
IsAnswerTo files None answer = answer ≡ Usage
IsAnswerTo files (Some (same first second)) answer = Settles WhetherSame (files first) (files second) answer
IsAnswerTo files (Some (normalise program)) answer = Normalises (files program) answer
IsAnswerTo files (Some (normal text)) answer = Checks (files text) answer
IsAnswerTo files (Some (belongs program text)) answer = Judges (files program) (files text) answer
IsAnswerTo files (Some (stress shape stages)) answer = Stresses shape stages answer
IsAnswerTo files (Some (refine first second)) answer = Settles WhetherRefined (files first) (files second) answer
IsAnswerTo files (Some (deadlock program)) answer = Seeks (files program) answer
IsAnswerTo files (Some (replay text)) answer = Replays (files text) answer
IsAnswerTo files (Some (run program text)) answer = Steps (files program) (files text) answer
IsAnswerTo files (Some (transform program text)) answer = Transforms (files program) (files text) answer
IsAnswerTo files (Some (expand program path)) answer = Expands (files program) path answer
IsAnswerTo files (Some (derive program)) answer = Derives (files program) answer

-- all that words can ask for has one answer but a derivation, whose steps are free
abbrev pub IsDetermined : Option Job → Type 0
IsDetermined (Some (derive program)) = ⊥
IsDetermined asked = Unit {0}

-- The words and the files have an answer with this status and this text.
pub record Answers (files : Files) (words : List (List ℕ)) (status : ℕ) (text : List ℕ) : Type 0 where
  pub answer : Answer
  pub is : IsAnswer files words answer
  pub status_is : status ≡ (told answer).0
  pub text_is : text ≡ (told answer).1
