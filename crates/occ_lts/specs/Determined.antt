-- What the file of a program is answered with that may be deterministic.
use Rattle.std.specs.Prelude.{ℕ, ◌≡◌, List, ◌++◌, ◌∷◌, Option, Some, None, codes}
use Rattle.std.specs.List.{flat_map}
use Rattle.occ_traces.specs.Choices.{IsAnswer}
use Rattle.occ_traces.specs.declared.choices.Choice.{Choice}
use Rattle.occ_traces.specs.declared.choices.Choice.TheVariants.{TwoEnds, EndOrRefusal, EndOrEvent, EventOrRefusal}
use Rattle.occ_traces.specs.declared.determined.Undetermined.{Undetermined}
use Rattle.occ_tool_run.specs.Accepts.{Program}
use Rattle.occ_tool_run.specs.occ_behaviour.Texts.{event_text, state_text}
use Rattle.occ_lts.specs.Answers.{AnswersBy}

-- what it can do, a line for each of the two
abbrev pub choice_text : List (List ℕ) → Choice → List ℕ
choice_text names (TwoEnds s u) = codes "ENDS " ++ state_text s ++ codes "\n" ++ codes "ENDS " ++ state_text u ++ codes "\n"
choice_text names (EndOrRefusal s) = codes "ENDS " ++ state_text s ++ codes "\n" ++ codes "REFUSES {}\n"
choice_text names (EndOrEvent s e) = codes "ENDS " ++ state_text s ++ codes "\n" ++ codes "DOES " ++ event_text names e ++ codes "\n"
choice_text names (EventOrRefusal e) = codes "DOES " ++ event_text names e ++ codes "\nREFUSES {" ++ event_text names e ++ codes "}\n"

abbrev pub found_text : List (List ℕ) → Undetermined → List ℕ
found_text names u = codes "NONDETERMINISTIC\n" ++ codes "STATE " ++ state_text u.state ++ codes "\n" ++ codes "TRACE"
    ++ flat_map (λ e. 32 ∷ event_text names e) u.trace ++ codes "\n" ++ choice_text names u.choice

abbrev pub determined_status : Option Undetermined → ℕ
determined_status None = 0
determined_status (Some u) = 1

abbrev pub determined_text : List (List ℕ) → Option Undetermined → List ℕ
determined_text names None = codes "DETERMINISTIC\n"
determined_text names (Some u) = found_text names u

-- the reply to an accepted program
pub record IsTold (names : List (List ℕ)) (p : Program) (status : ℕ) (text : List ℕ) : Type 0 where
  pub found : Option Undetermined
  pub is : IsAnswer p.params p.body found
  pub status_is : status ≡ determined_status found
  pub text_is : text ≡ determined_text names found

abbrev pub AnswersDeterministic : Option (List ℕ) → ℕ → List ℕ → Type 0
AnswersDeterministic = AnswersBy IsTold
