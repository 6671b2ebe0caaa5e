-- Which answer a command line has over the files.
use Rattle.std.specs.Prelude.{ℕ, ◌≡◌, List, Option, Some, None}
use Rattle.occ_witness.specs.occ_call.declared.loading.Contents.{Contents}
use Rattle.occ_witness.specs.occ_call.declared.loading.Wanted.{Wanted}
use Rattle.occ_witness.specs.occ_call.declared.loading.Wanted.TheVariants.{Nothing, One, Two}
use Rattle.occ_witness.specs.occ_call.declared.replying.Reply.{Reply}
use Rattle.occ_witness.specs.occ_call.Files.{AreLoaded, Files, most_bytes, most_table_bytes}
use Rattle.occ_check.specs.Answers.{Answers as AnswersCheck}
use Rattle.occ_draw.specs.Answers.{Answers as AnswersDraw}
use Rattle.occ_lts.specs.Answers.{AnswersAut, AnswersPromela}
use Rattle.occ_prove.specs.Answers.{Answers as AnswersProve}
use Rattle.occ_steps.specs.Answers.{AnswersAtStart, Answers as AnswersSteps}
use Rattle.occ_why.specs.Answers.{Answers as AnswersWhy, AnswersApart, AreRefused, IsRefused}
use Rattle.occ_lts.specs.Traces.{AnswersTraces}
use Rattle.occ_lts.specs.Determined.{AnswersDeterministic}
use Rattle.occ_witness.specs.Answers.{Answers as AnswersWitness}
use Rattle.occ_workshop_run.specs.Explained.{OrChecked, OrOneChecked}
use Rattle.occ_workshop_run.specs.declared.words.Command.{Command}
use Rattle.occ_workshop_run.specs.declared.words.Command.TheVariants.{Usage, Check, Draw, Explain, Prove, Witness, Aut, Promela, Steps, StepsAfter, Why, WhyApart, Traces, Deterministic}
use Rattle.occ_workshop_run.specs.Words.{Job, check, draw, explain, prove, witness, aut, promela, steps, steps_after, why, why_apart, traces, deterministic, job, job_of, usage_text}

-- What is asked for has an answer with this status and this text: that of the command's own library.
abbrev pub AnswersJob : Files → Option Job → ℕ → List ℕ → Type 0
AnswersJob files None status text = (status ≡ 2) × (text ≡ usage_text)
AnswersJob files (Some (check name)) status text = AnswersCheck name (files name) status text
AnswersJob files (Some (draw name)) status text = AnswersDraw (files name) status text
AnswersJob files (Some (explain name refusal)) status text = status ≡ 3
AnswersJob files (Some (prove first second)) status text = AnswersProve (files first) (files second) status text
AnswersJob files (Some (witness program name)) status text = AnswersWitness (files program) (files name) status text
AnswersJob files (Some (aut program)) status text = AnswersAut (files program) status text
AnswersJob files (Some (promela program)) status text = AnswersPromela (files program) status text
AnswersJob files (Some (steps program)) status text = AnswersAtStart (files program) status text
AnswersJob files (Some (steps_after program name)) status text = AnswersSteps (files program) (files name) status text
AnswersJob files (Some (why program)) status text =
    OrChecked (IsRefused (files program)) (AnswersWhy (files program)) program (files program) status text
AnswersJob files (Some (why_apart first second)) status text =
    OrOneChecked (AreRefused (files first) (files second)) (AnswersApart (files first) (files second)) (first, files first) (second, files second) status text
AnswersJob files (Some (traces first second)) status text = AnswersTraces (files first) (files second) status text
AnswersJob files (Some (deterministic program)) status text = AnswersDeterministic (files program) status text

-- The words and the files have an answer with this status and this text.
abbrev pub Answers : Files → List (List ℕ) → ℕ → List ℕ → Type 0
Answers files words status text = AnswersJob files (job_of words) status text

-- the files that a command reads, and how many bytes each may have
abbrev pub wanted_of : Command → Wanted
wanted_of Usage = Nothing
wanted_of (Check program) = One (record { name = program; most = most_bytes })
wanted_of (Draw text) = One (record { name = text; most = most_table_bytes })
wanted_of (Explain text refusal) = One (record { name = text; most = most_table_bytes })
wanted_of (Prove first second) = Two (record { name = first; most = most_bytes }) (record { name = second; most = most_bytes })
wanted_of (Witness program text) = Two (record { name = program; most = most_bytes }) (record { name = text; most = most_bytes })
wanted_of (Aut program) = One (record { name = program; most = most_bytes })
wanted_of (Promela program) = One (record { name = program; most = most_bytes })
wanted_of (Steps program) = One (record { name = program; most = most_bytes })
wanted_of (StepsAfter program text) = Two (record { name = program; most = most_bytes }) (record { name = text; most = most_bytes })
wanted_of (Why program) = One (record { name = program; most = most_bytes })
wanted_of (WhyApart first second) = Two (record { name = first; most = most_bytes }) (record { name = second; most = most_bytes })
wanted_of (Traces first second) = Two (record { name = first; most = most_bytes }) (record { name = second; most = most_bytes })
wanted_of (Deterministic program) = One (record { name = program; most = most_bytes })

-- the reply to a command whose files were read
abbrev pub IsReplyTo : Command → Contents → Reply → Type 0
IsReplyTo command contents reply =
    (files : Files) → AreLoaded files (wanted_of command) contents → AnswersJob files (job command) reply.status reply.text.items

-- words that ask for a drawing, and words that don't fit, have one answer; the steps of a proof are free, so is a schedule, and so
-- are the sentences of `check` and `explain`
abbrev pub IsDetermined : Option Job → Type 0
IsDetermined None = Unit {0}
IsDetermined (Some (check name)) = ⊥
IsDetermined (Some (draw name)) = Unit {0}
IsDetermined (Some (explain name refusal)) = ⊥
IsDetermined (Some (prove first second)) = ⊥
IsDetermined (Some (witness program name)) = ⊥
IsDetermined (Some (aut program)) = ⊥
IsDetermined (Some (promela program)) = ⊥
IsDetermined (Some (steps program)) = ⊥
IsDetermined (Some (steps_after program text)) = ⊥
IsDetermined (Some (why program)) = ⊥
IsDetermined (Some (why_apart first second)) = ⊥
IsDetermined (Some (traces first second)) = ⊥
IsDetermined (Some (deterministic program)) = ⊥
