-- What is left behind: the names that were asked for, and the answer to the words.
use Rattle.std.proofs.Common.{◌≡◌, ◌∙◌, ℕ, List, [], Option, Some, None, IfSome, refl, sym, ap, subst}
use Rattle.std.specs.Option.{option_map_or}
use Rattle.occ_call.specs.occ_desk.Desk.{with_more}
use Rattle.occ_call.specs.declared.loading.Contents.{Contents}
use Rattle.occ_call.specs.declared.loading.Wanted.{Wanted}
use Rattle.occ_call.specs.declared.replying.Reply.{Reply}
use Rattle.occ_call.specs.Files.{AreLoaded, Files, names_of}
use Rattle.occ_tool_run.specs.Answers.{Answers, IsAnswer, IsAnswerTo, usage, comparison, normalisation, checking, membership, stressing, refinement, seeking, replaying, running, transforming, expanding, normalisation_by_laws}
use Rattle.occ_tool_run.specs.declared.answer.Answer.{Answer}
use Rattle.occ_tool_run.specs.Replies.{IsReplyTo, wanted_of}
use Rattle.occ_tool_words.specs.declared.words.Command.{Command}
use Rattle.occ_tool_words.specs.declared.words.Command.TheVariants.{Usage, Same, Normalise, Normal, Belongs, Stress, Refine, Deadlock, Replay, Run, Transform, Expand, Derive}
use Rattle.occ_tool_words.specs.Words.{Job, same, normalise, normal, belongs, stress, refine, deadlock, replay, run, transform, expand, derive, file_words, files_of, job, job_of}

-- ---- the files that were asked for

wanted_names : (command : Command) → names_of (wanted_of command) ≡ option_map_or files_of (job command) []
wanted_names Usage = refl
wanted_names (Same first second) = refl
wanted_names (Normalise program) = refl
wanted_names (Normal text) = refl
wanted_names (Belongs program text) = refl
wanted_names (Stress shape stages) = refl
wanted_names (Refine first second) = refl
wanted_names (Deadlock program) = refl
wanted_names (Replay text) = refl
wanted_names (Run program text) = refl
wanted_names (Transform program text) = refl
wanted_names (Expand program path) = refl
wanted_names (Derive program) = refl

pub asked_for : (old new : Option (List (List ℕ))) (words : List (List ℕ)) (command : Command) (wanted : Wanted) → wanted ≡ wanted_of command → job command ≡ job_of words
    → new ≡ with_more old (names_of wanted) → new ≡ with_more old (file_words words)
asked_for old new words command wanted w j e =
    e ∙ ap (with_more old) (ap names_of w ∙ wanted_names command ∙ ap (λ k. option_map_or files_of k []) j)

-- ---- the answer

is_answer : (files : Files) (words : List (List ℕ)) (asked : Option Job) (a : Answer) → asked ≡ job_of words → IsAnswerTo files asked a → IsAnswer files words a
is_answer files words None a e s = usage (sym e) s
is_answer files words (Some (same x y)) a e s = comparison x y (sym e) s
is_answer files words (Some (normalise x)) a e s = normalisation x (sym e) s
is_answer files words (Some (normal x)) a e s = checking x (sym e) s
is_answer files words (Some (belongs x y)) a e s = membership x y (sym e) s
is_answer files words (Some (stress shape stages)) a e s = stressing shape stages (sym e) s
is_answer files words (Some (refine x y)) a e s = refinement x y (sym e) s
is_answer files words (Some (deadlock x)) a e s = seeking x (sym e) s
is_answer files words (Some (replay x)) a e s = replaying x (sym e) s
is_answer files words (Some (run x y)) a e s = running x y (sym e) s
is_answer files words (Some (transform x y)) a e s = transforming x y (sym e) s
is_answer files words (Some (expand x path)) a e s = expanding x path (sym e) s
is_answer files words (Some (derive x)) a e s = normalisation_by_laws x (sym e) s

pub replied : (told : Option Files) (words : List (List ℕ)) (command : Command) (wanted : Wanted) (contents : Contents) (reply : Reply) → wanted ≡ wanted_of command
    → job command ≡ job_of words → IfSome told (λ files. AreLoaded files wanted contents) → IsReplyTo command contents reply
    → IfSome told (λ files. Answers files words reply.status reply.text.items)
replied None words command wanted contents reply w j l r = tt
replied (Some files) words command wanted contents reply w j l r =
    let loaded = subst (λ v. AreLoaded files v contents) w l in
    record { answer = r.answer; is = is_answer files words (job command) r.answer j (r.is files loaded); status_is = r.status_is; text_is = r.text_is }
