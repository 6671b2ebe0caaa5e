-- What is judged of two files that were read.
use Rattle.std.specs.Prelude.{ℕ, ◌⊎◌, List, Option}
use Rattle.std.specs.declared.cmp.Ordering.{Ordering}
use Rattle.occ_syntax.specs.declared.scope.Program.{Program}
use Rattle.occ_tool_words.specs.occ_parse.Known.{NamesAreKnown}
use Rattle.occ_tool_run.specs.declared.answer.Answer.{Answer}
use Rattle.occ_tool_run.specs.declared.judge.Question.{Question}
use Rattle.occ_call.specs.declared.loading.Loaded.{Loaded}
use Rattle.occ_tool_run.specs.Answers.{TakesBoth}
use Rattle.occ_call.specs.Files.{IsLoaded, most_bytes}

-- the names of one of two programs have texts: of that which was read last
abbrev pub IsOneKnown : List (List ℕ) → Program → Program → Type 0
IsOneKnown names p q = NamesAreKnown names p ⊎ NamesAreKnown names q

-- the answer to all files that were read so, in that order
abbrev pub SettlesAll : Ordering → Question → Loaded → Loaded → Answer → Type 0
SettlesAll order question first second answer = (one two : Option (List ℕ)) → IsLoaded most_bytes one first → IsLoaded most_bytes two second → TakesBoth order question one two answer
