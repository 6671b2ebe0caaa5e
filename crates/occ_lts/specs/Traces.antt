-- What two files are answered with, by the traces of their programs.
use Rattle.std.specs.Prelude.{ℕ, ◌≡◌, List, [], Option}
use Rattle.occ_traces.specs.Traces.{IsTraceAnswer}
use Rattle.occ_tool_run.specs.occ_behaviour.declared.behaviour.Side.TheVariants.{First, Second}
use Rattle.occ_tool_run.specs.occ_call.Files.{IsLoaded, most_bytes}
use Rattle.occ_tool_run.specs.occ_call.declared.loading.Loaded.{Loaded}
use Rattle.occ_traces.specs.occ_compare.declared.refined.Refined.{Refined}
use Rattle.occ_tool_run.specs.Accepts.{Program}
use Rattle.occ_tool_run.specs.Answers.{Takes}
use Rattle.occ_tool_run.specs.Texts.{status_of, text_of}
use Rattle.occ_tool_run.specs.declared.answer.Answer.{Answer}
use Rattle.occ_tool_run.specs.declared.answer.Answer.TheVariants.{InterfacesDiffer, Allowed}

-- the answer to two accepted programs: their interfaces differ, or it tells whether each trace of the second is one of the first
pub data Compares (p : Program) (names : List (List ℕ)) (q : Program) (answer : Answer) : Type 0 where
  apart : (p.params ≡ q.params → ⊥) → answer ≡ InterfacesDiffer → Compares p names q answer
  compared : (refined : Refined) → p.params ≡ q.params → IsTraceAnswer p.params p.body q.body refined → answer ≡ Allowed names refined
      → Compares p names q answer

-- the answer to two files, of which the first is read first
abbrev pub ComparesFiles : Option (List ℕ) → Option (List ℕ) → Answer → Type 0
ComparesFiles one two answer = Takes First one [] (λ names p. Takes Second two names (Compares p)) answer

-- the answer to all files that are loaded so
abbrev pub ComparesAll : Loaded → Loaded → Answer → Type 0
ComparesAll first second answer = (one two : Option (List ℕ)) → IsLoaded most_bytes one first → IsLoaded most_bytes two second
    → ComparesFiles one two answer

-- Two files have an answer with this status and this text.
pub record AnswersTraces (one two : Option (List ℕ)) (status : ℕ) (text : List ℕ) : Type 0 where
  pub answer : Answer
  pub is : ComparesFiles one two answer
  pub status_is : status ≡ status_of answer
  pub text_is : text ≡ text_of answer
