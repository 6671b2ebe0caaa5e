-- Words that have an answer, and scripts of which a replay has that they join and no other.
use Rattle.std.specs.Prelude.{ℕ, ◌≡◌, ◌↔◌, List, Option, codes}
use Rattle.occ_witness.specs.occ_call.Files.{Files}
use Rattle.occ_witness.specs.occ_derive_moves.Moves.{AreNarrow}
use Rattle.occ_witness.specs.occ_engine.Moved.{moves_of}
use Rattle.occ_witness.specs.occ_tool_run.Answers.{Answers}
use Rattle.occ_witness.specs.occ_tool_run.Texts.{figure_text}
use Rattle.occ_tool_laws.specs.Joined.{IsScriptFrom}
use Rattle.occ_tool_laws.specs.ProveJoined.{IsScriptBetween}

-- The words have an answer over the files.
pub record HasAnswer (files : Files) (words : List (List ℕ)) : Type 0 where
  pub status : ℕ
  pub text : List ℕ
  pub is : Answers files words status text

-- The words have the answer over the files that so many steps join, and no other.
abbrev pub IsJoinedExactly : Files → List (List ℕ) → ℕ → Type 0
IsJoinedExactly files words count =
    (status : ℕ) (answer : List ℕ) → Answers files words status answer ↔ ((status ≡ 0) × (answer ≡ figure_text (codes "JOINED") count))

-- A text is a script that begins with the program of a file, and the words have the answer that its steps join, and no other.
pub record HasJoined (files : Files) (words : List (List ℕ)) (file : Option (List ℕ)) (text : List ℕ) : Type 0 where
  pub count : ℕ
  pub script : IsScriptFrom file text count
  pub exactly : IsJoinedExactly files words count

-- The same, where no printed line of a part of its steps has more than 4,096 tokens.
pub record HasJoinedWhereNarrow (files : Files) (words : List (List ℕ)) (file : Option (List ℕ)) (text : List ℕ) : Type 0 where
  pub count : ℕ
  pub script : IsScriptFrom file text count
  pub exactly : AreNarrow (moves_of script.steps) → IsJoinedExactly files words count

-- The same of a script from the program of one file to that of another.
pub record HasJoinedBetween (files : Files) (words : List (List ℕ)) (one two : Option (List ℕ)) (text : List ℕ) : Type 0 where
  pub count : ℕ
  pub script : IsScriptBetween one two text count
  pub exactly : AreNarrow (moves_of script.steps) → IsJoinedExactly files words count
