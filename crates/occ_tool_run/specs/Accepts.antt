-- What becomes of one text that is read as a program.
use Rattle.std.specs.Prelude.{ℕ, ◌≡◌, List, [], ◌∷◌, Option, Some, slice_index_or}
use Rattle.occ_syntax.specs.occ_base.declared.names.Name.{Name}
use Rattle.occ_syntax.specs.declared.scope.Kind.{Kind}
use Rattle.occ_syntax.specs.Tree.{Tree}
use Rattle.occ_run_schedule.specs.occ_usage.Faults.{faults, names_of}
use Rattle.occ_tool_words.specs.occ_parse.Reading.{IsRead}
use Rattle.occ_tool_words.specs.occ_parse.Reading.{IsRefused as IsRefusedText}
use Rattle.occ_tool_words.specs.occ_parse.declared.bound.Bound.TheVariants as bound
use Rattle.occ_tool_words.specs.occ_parse.declared.fault.ParseFault.{ParseFault}
use Rattle.occ_run_schedule.specs.occ_usage.declared.fault.UsageFault.{UsageFault}
use Rattle.occ_run_schedule.specs.occ_usage.declared.fault.UsageFault.TheVariants as shared

-- a program, apart from where its parts lie in memory
pub record Program : Type 0 where
  pub name : Name
  pub params : List (Name × Kind)
  pub body : Tree

abbrev pub usage_faults : Program → List UsageFault
usage_faults program = faults program.body 0 (names_of program.params)

-- The text reads as the program, with its processes on these lines. The names found so far are `old`, and `new` with those of
-- the text.
abbrev pub ReadsAs : List ℕ → List (List ℕ) → List (List ℕ) → Program → List ℕ → Type 0
ReadsAs text old new program numbers = IsRead bound.Program text old new program.name program.params program.body numbers

-- The text is one of a program that keeps all rules: those of names and types, since it reads as one, and that of usage.
pub record IsAcceptedText (text : List ℕ) (old new : List (List ℕ)) (program : Program) : Type 0 where
  pub numbers : List ℕ
  pub read : ReadsAs text old new program numbers
  pub usage : usage_faults program ≡ []

-- the number of the PAR
abbrev pub node_of : UsageFault → ℕ
node_of (shared.SharedVariable node name) = node
node_of (shared.SharedEnd node name dir) = node
node_of shared.Memory = 0

-- The text is one of a program in which the parts of a PAR share what they may not: this is the first such fault, and the PAR
-- stands on the line.
pub record IsUnusableText (text : List ℕ) (old new : List (List ℕ)) (line : ℕ) (fault : UsageFault) : Type 0 where
  pub program : Program
  pub numbers : List ℕ
  pub read : ReadsAs text old new program numbers
  pub later : List UsageFault
  pub found : usage_faults program ≡ fault ∷ later
  pub line_is : line ≡ slice_index_or numbers (node_of fault) 1

-- ---- files

-- The file holds a text of which that is said.
pub record Holds (file : Option (List ℕ)) (Says : List ℕ → Type 0) : Type 0 where
  pub bytes : List ℕ
  pub there : file ≡ Some bytes
  pub text : Says bytes

-- a text of a program that keeps all rules
abbrev pub IsAccepted : Option (List ℕ) → List (List ℕ) → List (List ℕ) → Program → Type 0
IsAccepted file old new program = Holds file (λ bytes. IsAcceptedText bytes old new program)

-- a text that reads as no program: this is its first fault
abbrev pub IsRefused : Option (List ℕ) → List (List ℕ) → ParseFault → Type 0
IsRefused file old fault = Holds file (λ bytes. IsRefusedText bound.Program bytes old fault)

-- a text whose program breaks the rule of usage
abbrev pub IsUnusable : Option (List ℕ) → List (List ℕ) → List (List ℕ) → ℕ → UsageFault → Type 0
IsUnusable file old new line fault = Holds file (λ bytes. IsUnusableText bytes old new line fault)
