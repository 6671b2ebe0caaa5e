-- What a file is answered with by `check`.
use Rattle.std.specs.Prelude.{ℕ, ◌≡◌, List, [], Option}
use Rattle.occ_tool_run.specs.declared.accept.Refusal.{Refusal}
use Rattle.occ_tool_run.specs.declared.accept.Refusal.TheVariants as refusal
use Rattle.occ_tool_run.specs.Accepts.{IsAccepted, IsRefused, IsUnusable, Program}
use Rattle.occ_tool_run.specs.Texts.{told_of, words_of_usage}
use Rattle.occ_tool_run.specs.occ_parse.declared.fault.ParseFault.{ParseFault}
use Rattle.occ_tool_run.specs.occ_usage.declared.fault.UsageFault.{UsageFault}
use Rattle.occ_check_other.specs.occ_check_text.Lead.{Tells}

-- The file of that name has an answer with this status and this text: 0 where it holds an accepted program; 3 where the file is
-- refused, and then the text begins with the refusal, its line and the words for its fault. Both are as every command that takes a
-- program accepts and refuses it.
pub data Answers (name : List ℕ) (file : Option (List ℕ)) (status : ℕ) (text : List ℕ) : Type 0 where
  passed : (names : List (List ℕ)) (program : Program) → IsAccepted file [] names program → status ≡ 0 → Answers name file status text
  refused : (fault : ParseFault) → IsRefused file [] fault → Tells name (told_of fault).0 (told_of fault).1 text → status ≡ 3
      → Answers name file status text
  unusable : (names : List (List ℕ)) (line : ℕ) (fault : UsageFault) → IsUnusable file [] names line fault
      → Tells name line (words_of_usage names fault) text → status ≡ 3 → Answers name file status text

-- the text tells the refusal: its line, and the words for its fault
abbrev pub TellsRefusal : List ℕ → List (List ℕ) → Refusal → List ℕ → Type 0
TellsRefusal name names (refusal.Text fault) text = Tells name (told_of fault).0 (told_of fault).1 text
TellsRefusal name names (refusal.Usage line fault) text = Tells name line (words_of_usage names fault) text
TellsRefusal name names refusal.Memory text = ⊥
