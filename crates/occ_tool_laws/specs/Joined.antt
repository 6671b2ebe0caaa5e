-- A script that was printed, and what its replay is answered with.
use Rattle.std.specs.Prelude.{ℕ, ◌≡◌, List, [], length, Option, codes}
use Rattle.occ_witness.specs.occ_derive_moves.Moves.{AreNarrow}
use Rattle.occ_witness.specs.occ_engine.Moved.{moves_of}
use Rattle.occ_witness.specs.occ_print_back.Back.{IsNarrow}
use Rattle.occ_witness.specs.occ_script_write.declared.writing.Done.{Done}
use Rattle.occ_witness.specs.occ_script_write.Text.{script_text}
use Rattle.occ_witness.specs.occ_syntax.declared.scope.Program.{Program as Stored}
use Rattle.occ_witness.specs.occ_tool_run.Accepts.{IsAccepted, Program}
use Rattle.occ_witness.specs.occ_tool_run.Answers.{Answers}
use Rattle.occ_witness.specs.occ_call.Files.{Files}
use Rattle.occ_witness.specs.occ_tool_run.Stored.{seen}
use Rattle.occ_witness.specs.occ_tool_run.Texts.{figure_text}

-- no line on which the program of a file is printed has more than 4,096 tokens
abbrev pub IsPrintedNarrow : Option (List ℕ) → Type 0
IsPrintedNarrow file = (names : List (List ℕ)) (p : Program) → IsAccepted file [] names p → IsNarrow p.name.0 p.params p.body

-- A text is a script of so many steps that begins with the program of a file.
pub record IsScriptFrom (file : Option (List ℕ)) (text : List ℕ) (count : ℕ) : Type 0 where
  pub first : List (List ℕ)
  pub from : Stored
  pub accepted : IsAccepted file [] first (seen from)
  pub names : List (List ℕ)
  pub steps : List Done
  pub to : Stored
  pub text_is : text ≡ script_text names from steps to
  pub as_many : length steps ≡ count

-- A text is a script that begins with the program of a file, and the words have no answer over the files but that it joins, with the
-- number of its steps.
pub record IsJoined (files : Files) (words : List (List ℕ)) (file : Option (List ℕ)) (text : List ℕ) : Type 0 where
  pub count : ℕ
  pub script : IsScriptFrom file text count
  pub alone : (status : ℕ) (answer : List ℕ) → Answers files words status answer
      → (status ≡ 0) × (answer ≡ figure_text (codes "JOINED") count)

-- The same, where no printed line of a part of its steps has more than 4,096 tokens.
pub record IsJoinedWhereNarrow (files : Files) (words : List (List ℕ)) (file : Option (List ℕ)) (text : List ℕ) : Type 0 where
  pub count : ℕ
  pub script : IsScriptFrom file text count
  pub alone : AreNarrow (moves_of script.steps) → (status : ℕ) (answer : List ℕ) → Answers files words status answer
      → (status ≡ 0) × (answer ≡ figure_text (codes "JOINED") count)
