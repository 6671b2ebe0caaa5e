-- The names that were asked for are those of the files that the words name.
use Rattle.std.proofs.Common.{◌≡◌, ◌∙◌, ℕ, List, [], Option, refl, ap}
use Rattle.std.specs.Option.{option_map_or}
use Rattle.occ_witness.specs.occ_desk.Desk.{with_more}
use Rattle.occ_witness.specs.occ_call.declared.loading.Wanted.{Wanted}
use Rattle.occ_witness.specs.occ_call.Files.{names_of}
use Rattle.occ_workshop_run.specs.Answers.{wanted_of}
use Rattle.occ_workshop_run.specs.declared.words.Command.{Command}
use Rattle.occ_workshop_run.specs.declared.words.Command.TheVariants.{Usage, Check, Draw, Explain, Prove, Witness, Aut, Promela, Steps, StepsAfter, Why, WhyApart, Traces, Deterministic}
use Rattle.occ_workshop_run.specs.Words.{file_words, files_of, job, job_of}

wanted_names : (command : Command) → names_of (wanted_of command) ≡ option_map_or files_of (job command) []
wanted_names Usage = refl
wanted_names (Check program) = refl
wanted_names (Draw text) = refl
wanted_names (Explain text refusal) = refl
wanted_names (Prove first second) = refl
wanted_names (Witness program text) = refl
wanted_names (Aut program) = refl
wanted_names (Promela program) = refl
wanted_names (Steps program) = refl
wanted_names (StepsAfter program text) = refl
wanted_names (Why program) = refl
wanted_names (WhyApart first second) = refl
wanted_names (Traces first second) = refl
wanted_names (Deterministic program) = refl

pub asked_for : (old new : Option (List (List ℕ))) (words : List (List ℕ)) (command : Command) (wanted : Wanted) → wanted ≡ wanted_of command → job command ≡ job_of words
    → new ≡ with_more old (names_of wanted) → new ≡ with_more old (file_words words)
asked_for old new words command wanted w j e =
    e ∙ ap (with_more old) (ap names_of w ∙ wanted_names command ∙ ap (λ k. option_map_or files_of k []) j)
