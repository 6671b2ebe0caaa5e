-- A script from one program to another that was printed, and what its replay is answered with.
use Rattle.std.specs.Prelude.{ℕ, ◌≡◌, List, [], length, Option, codes}
use Rattle.occ_witness.specs.occ_derive_moves.Moves.{AreNarrow}
use Rattle.occ_witness.specs.occ_engine.Moved.{moves_of}
use Rattle.occ_witness.specs.occ_script_write.declared.writing.Done.{Done}
use Rattle.occ_witness.specs.occ_script_write.Text.{script_text}
use Rattle.occ_witness.specs.occ_syntax.declared.scope.Program.{Program}
use Rattle.occ_witness.specs.occ_tool_run.Accepts.{IsAccepted}
use Rattle.occ_witness.specs.occ_tool_run.Answers.{Answers}
use Rattle.occ_witness.specs.occ_call.Files.{Files}
use Rattle.occ_witness.specs.occ_tool_run.Stored.{seen}
use Rattle.occ_witness.specs.occ_tool_run.Texts.{figure_text}

-- A text is a script of so many steps from the program of one file to that of another, which is read behind it.
pub record IsScriptBetween (one two : Option (List ℕ)) (text : List ℕ) (count : ℕ) : Type 0 where
  pub between : List (List ℕ)
  pub from : Program
  pub first : IsAccepted one [] between (seen from)
  pub names : List (List ℕ)
  pub to : Program
  pub second : IsAccepted two between names (seen to)
  pub all : List (List ℕ)
  pub steps : List Done
  pub text_is : text ≡ script_text all from steps to
  pub as_many : length steps ≡ count

-- A text is such a script, and where no printed line of a part of its steps has more than 4,096 tokens, the words have no answer over
-- the files but that it joins, with the number of its steps.
pub record IsJoined (files : Files) (words : List (List ℕ)) (one two : Option (List ℕ)) (text : List ℕ) : Type 0 where
  pub count : ℕ
  pub script : IsScriptBetween one two text count
  pub alone : AreNarrow (moves_of script.steps) → (status : ℕ) (answer : List ℕ) → Answers files words status answer
      → (status ≡ 0) × (answer ≡ figure_text (codes "JOINED") count)
