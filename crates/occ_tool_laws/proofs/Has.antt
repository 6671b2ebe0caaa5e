-- What becomes of a text that is to be a script is an answer; and where each answer is one and the same, words have that one.
use Rattle.std.proofs.Common.{◌≡◌, ◌<◌, ◌≤◌, ℕ, List, [], length, Some, refl, sym, ◌∙◌, ⊎_elim}
use Rattle.std.specs.Prelude.{codes}
use Rattle.std.proofs.lemmas.Bool.{cases_lt}
use Rattle.occ_readings.specs.Told.{IsDecided, IsTold, faulty, joins, rejects, replayed}
use Rattle.occ_tool_laws.specs.Has.{HasAnswer, HasJoined, HasJoinedBetween, HasJoinedWhereNarrow, IsJoinedExactly}
use Rattle.occ_tool_laws.specs.Joined.{IsJoined, IsJoinedWhereNarrow}
use Rattle.occ_tool_laws.specs.ProveJoined.{IsJoined as IsJoinedBetween}
use Rattle.occ_witness.specs.occ_behaviour.declared.behaviour.Side.TheVariants.{First}
use Rattle.occ_witness.specs.occ_call.Files.{Files, most_script_bytes}
use Rattle.occ_witness.specs.occ_script.declared.script.Script.{Script}
use Rattle.occ_witness.specs.occ_tool_run.Answers.{Answers, replaying}
use Rattle.occ_witness.specs.occ_tool_run.Derivations.{IsReplayAnswer, IsReplayOf, faulty_script, joined_script, line_of_cause, rejected_script, replayed_script, too_long_script}
use Rattle.occ_witness.specs.occ_tool_run.Texts.{figure_text, status_of, text_of}
use Rattle.occ_witness.specs.occ_tool_run.declared.answer.Answer.{Answer}
use Rattle.occ_witness.specs.occ_tool_run.declared.answer.Answer.TheVariants.{Joined, RefusedScript, TooLong, Unjoined}
use Rattle.occ_witness.specs.occ_tool_words.Words.{job_of, replay}

-- the answer to a text that is to be a script, and to one that is
record IsAnswered (text : List ℕ) : Type 0 where
  answer : Answer
  is : IsReplayAnswer text answer

record IsScriptAnswered (s : Script) (names : List (List ℕ)) : Type 0 where
  answer : Answer
  is : IsReplayOf s names answer

decided : (s : Script) (names : List (List ℕ)) → IsDecided s → IsScriptAnswered s names
decided s names (joins found r same) = record {
  answer = Joined (length s.steps);
  is = joined_script (record { derivation = r.joins; one_interface = r.joins.is_end.params; same = same }) refl;
}
decided s names (rejects cause other r) = record {
  answer = Unjoined names (line_of_cause s.from.lines cause) cause;
  is = rejected_script cause other r refl;
}

told : (text : List ℕ) → length text ≤ most_script_bytes → IsTold text → IsAnswered text
told text few (faulty fault other is) = record { answer = RefusedScript fault; is = faulty_script fault few is refl }
told text few (replayed new s is d) =
    let a = decided s new d in
    record { answer = a.answer; is = replayed_script new s few is a.is }

answered : (text : List ℕ) → IsTold text → IsAnswered text
answered text t = ⊎_elim
    (λ (long : most_script_bytes < length text). record { answer = TooLong First; is = too_long_script long refl })
    (λ (few : length text ≤ most_script_bytes). told text few t)
    (cases_lt most_script_bytes (length text))

-- words that ask for a replay have an answer
pub has_answer : (text : List ℕ) → IsTold text → (files : Files) (words : List (List ℕ)) (script : List ℕ) → job_of words ≡ Some (replay script)
    → files script ≡ Some text → HasAnswer files words
has_answer text t files words script j e =
    let a = answered text t in
    record {
      status = status_of a.answer;
      text = text_of a.answer;
      is = record { answer = a.answer; is = replaying script j (record { bytes = text; there = e; replayed = a.is }); status_is = refl; text_is = refl };
    }

-- words whose answers are all one have that one
exactly : (files : Files) (words : List (List ℕ)) (count : ℕ) → HasAnswer files words
    → ((status : ℕ) (answer : List ℕ) → Answers files words status answer → (status ≡ 0) × (answer ≡ figure_text (codes "JOINED") count))
    → IsJoinedExactly files words count
exactly files words count h alone = λ status answer. (
  alone status answer,
  λ e.
      let own = alone h.status h.text h.is in
      record { answer = h.is.answer; is = h.is.is; status_is = e.0 ∙ (sym own.0 ∙ h.is.status_is); text_is = e.1 ∙ (sym own.1 ∙ h.is.text_is) },
)

pub has_joined : (files : Files) (words : List (List ℕ)) (file : _) (text : List ℕ) → HasAnswer files words → IsJoined files words file text → HasJoined files words file text
has_joined files words file text h j = record { count = j.count; script = j.script; exactly = exactly files words j.count h j.alone }

pub has_joined_where_narrow : (files : Files) (words : List (List ℕ)) (file : _) (text : List ℕ) → HasAnswer files words → IsJoinedWhereNarrow files words file text
    → HasJoinedWhereNarrow files words file text
has_joined_where_narrow files words file text h j = record { count = j.count; script = j.script; exactly = λ narrow. exactly files words j.count h (j.alone narrow) }

pub has_joined_between : (files : Files) (words : List (List ℕ)) (one two : _) (text : List ℕ) → HasAnswer files words → IsJoinedBetween files words one two text
    → HasJoinedBetween files words one two text
has_joined_between files words one two text h j = record { count = j.count; script = j.script; exactly = λ narrow. exactly files words j.count h (j.alone narrow) }
