-- The files that a command reads, and its answer once they are read.
use Rattle.std.specs.Prelude.{◌≡◌, ◌≤◌, Option, Some}
use Rattle.occ_call.specs.declared.loading.Contents.{Contents}
use Rattle.occ_call.specs.declared.loading.Wanted.{Wanted}
use Rattle.occ_call.specs.declared.loading.Wanted.TheVariants.{Nothing, One, Two}
use Rattle.occ_call.specs.declared.replying.Reply.{Reply}
use Rattle.occ_call.specs.Files.{AreLoaded, Files, most_bytes, most_script_bytes, most_table_bytes}
use Rattle.occ_tool_run.specs.Answers.{IsAnswerTo}
use Rattle.occ_tool_run.specs.declared.answer.Answer.{Answer}
use Rattle.occ_tool_run.specs.Texts.{told}
use Rattle.occ_tool_words.specs.declared.words.Command.{Command}
use Rattle.occ_tool_words.specs.declared.words.Command.TheVariants.{Usage, Same, Normalise, Normal, Belongs, Stress, Refine, Deadlock, Replay, Run, Transform, Expand, Derive}
use Rattle.occ_tool_words.specs.Words.{Job, job, stress}

-- the files that a command reads, and how many bytes each may have
abbrev pub wanted_of : Command → Wanted
wanted_of Usage = Nothing
wanted_of (Same first second) = Two (record { name = first; most = most_bytes }) (record { name = second; most = most_bytes })
wanted_of (Normalise program) = One (record { name = program; most = most_bytes })
wanted_of (Normal text) = One (record { name = text; most = most_table_bytes })
wanted_of (Belongs program text) = Two (record { name = program; most = most_bytes }) (record { name = text; most = most_bytes })
wanted_of (Stress shape stages) = Nothing
wanted_of (Refine first second) = Two (record { name = first; most = most_bytes }) (record { name = second; most = most_bytes })
wanted_of (Deadlock program) = One (record { name = program; most = most_bytes })
wanted_of (Replay text) = One (record { name = text; most = most_script_bytes })
wanted_of (Run program text) = Two (record { name = program; most = most_bytes }) (record { name = text; most = most_bytes })
wanted_of (Transform program text) = Two (record { name = program; most = most_bytes }) (record { name = text; most = most_script_bytes })
wanted_of (Expand program path) = One (record { name = program; most = most_bytes })
wanted_of (Derive program) = One (record { name = program; most = most_bytes })

-- where a generated program is asked for, it has 1 to 48 stages
abbrev pub AreStagesInRange : Option Job → Type 0
AreStagesInRange (Some (stress shape stages)) = (1 ≤ stages) × (stages ≤ 48)
AreStagesInRange asked = Unit {0}

-- the answer to a command whose files were read
abbrev pub IsAnswerOf : Command → Contents → Answer → Type 0
IsAnswerOf command contents answer = (files : Files) → AreLoaded files (wanted_of command) contents → IsAnswerTo files (job command) answer

-- the reply that writes it
pub record IsReplyTo (command : Command) (contents : Contents) (reply : Reply) : Type 0 where
  pub answer : Answer
  pub is : IsAnswerOf command contents answer
  pub status_is : reply.status ≡ (told answer).0
  pub text_is : reply.text.items ≡ (told answer).1
