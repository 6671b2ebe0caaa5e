-- How what is told of a behaviour is written: a word, what stands behind it, and the lines of the behaviour; and which lines are chosen.
use Rattle.std.specs.Prelude.{ℕ, ◌≡◌, ◌==◌, ◌⊎◌, ◌≤◌, ◌++◌, ◌∷◌, List, [], length, Option, codes, if◌then◌else◌}
use Rattle.std.specs.List.{flat_map}
use Rattle.occ_tool_run.specs.occ_behaviour.Texts.{text_of_behaviour}
use Rattle.occ_tool_run.specs.occ_behaviour.declared.behaviour.Behaviour.{Behaviour}
use Rattle.occ_tool_run.specs.occ_behaviour.declared.behaviour.Side.{Side}
use Rattle.occ_tool_run.specs.occ_behaviour.declared.behaviour.Side.TheVariants.{First, Second}
use Rattle.occ_tool_run.specs.Accepts.{IsAccepted}
use Rattle.occ_tool_run.specs.Stored.{seen}
use Rattle.occ_tool_run.specs.occ_behaviour_read.Behaviours.{IsBehaviourText}
use Rattle.occ_tool_run.specs.occ_call.Files.{IsLoaded, most_bytes}
use Rattle.occ_tool_run.specs.occ_call.declared.loading.Loaded.{Loaded}
use Rattle.occ_tool_run.specs.occ_run_schedule.Witnesses.{HasIt, IsWithin}
use Rattle.occ_tool_run.specs.occ_behaviour_read.Claims.{IsOf, bare_lines}
use Rattle.occ_tool_run.specs.occ_nform_table.Lines.{HaveWidths}
use Rattle.occ_why_text.specs.occ_base.declared.names.Name.{Name}
use Rattle.occ_why_text.specs.occ_syntax.declared.scope.Kind.{Kind}
use Rattle.occ_why_text.specs.occ_syntax.declared.scope.Program.{Program}

-- a byte of lines that stand in two columns
abbrev pub set_in : ℕ → List ℕ
set_in b = if b == 10 then 10 ∷ 32 ∷ 32 ∷ [] else b ∷ []

-- The text begins with the word, and ends with these lines, each with two spaces in front.
pub record IsTold (word lines text : List ℕ) : Type 0 where
  pub behind : List ℕ
  pub is : text ≡ word ++ behind ++ codes "\nAs a behaviour, for belongs and witness:\n\n  " ++ flat_map set_in lines ++ codes "\n"

-- the lines are those of the behaviour
abbrev pub AreLinesOf : List (List ℕ) → Behaviour → List ℕ → Type 0
AreLinesOf names b lines = text_of_behaviour names b ≡ lines ++ codes "\n"

-- The file holds an accepted program, and the lines are a behaviour of its interface.
pub record IsClaimOf (file : Option (List ℕ)) (lines : List ℕ) (p : Program) (b : Behaviour) : Type 0 where
  pub names : List (List ℕ)
  pub accepted : IsAccepted file [] names (seen p)
  pub short : length lines ≤ 65536
  pub written : IsBehaviourText names p.params b (bare_lines lines)

-- the behaviour is one of the program's interface, which these parameters are too
pub record IsOne (marked : List (Name × Kind)) (p : Program) (b : Behaviour) : Type 0 where
  pub same : marked ≡ p.params
  pub wide : HaveWidths p.params
  pub states : IsOf p.params b
  pub events : IsWithin p.params b.last

-- the program in the file has the behaviour of the lines
pub record HasClaim (file : Option (List ℕ)) (lines : List ℕ) : Type 0 where
  pub program : Program
  pub behaviour : Behaviour
  pub claim : IsClaimOf file lines program behaviour
  pub has : HasIt program behaviour

-- the program in the file hasn't the behaviour of the lines
pub record LacksClaim (file : Option (List ℕ)) (lines : List ℕ) : Type 0 where
  pub program : Program
  pub behaviour : Behaviour
  pub claim : IsClaimOf file lines program behaviour
  pub lacks : HasIt program behaviour → ⊥

-- the one program has the behaviour of the lines, and the other hasn't
abbrev pub AreTelling : Option (List ℕ) → Option (List ℕ) → List ℕ → Type 0
AreTelling owner other lines = HasClaim owner lines × LacksClaim other lines

-- the lines tell two files apart, as they were read
abbrev pub TellFiles : Loaded → Loaded → List ℕ → Type 0
TellFiles owner other lines = (one two : Option (List ℕ)) → IsLoaded most_bytes one owner → IsLoaded most_bytes two other → AreTelling one two lines

-- The chosen lines are the given ones, or they tell the two files apart.
abbrev pub Choose : Loaded → Loaded → List ℕ → List ℕ → Type 0
Choose owner other lines chosen = (chosen ≡ lines) ⊎ TellFiles owner other chosen

-- The text begins with DIFFER, and ends with lines that were chosen so.
pub record TellAlone (owner other : Loaded) (lines text : List ℕ) : Type 0 where
  pub chosen : List ℕ
  pub choose : Choose owner other lines chosen
  pub told : IsTold (codes "DIFFER") chosen text

-- the same where the side's program owns the lines
abbrev pub TellApartBy : Side → Loaded → Loaded → List ℕ → List ℕ → Type 0
TellApartBy First one two lines text = TellAlone one two lines text
TellApartBy Second one two lines text = TellAlone two one lines text
