-- Which text is a script, and as which.
use Rattle.std.specs.Prelude.{ℕ, ◌≡◌, Bool, true, false, nat_lt, List, [], ◌∷◌, length, None, codes}
use Rattle.occ_parse_part.specs.occ_parse.declared.bound.Bound.{Bound}
use Rattle.occ_parse_part.specs.occ_parse.declared.bound.Bound.TheVariants as bound
use Rattle.occ_parse_part.specs.occ_parse.Reading.{IsRead}
use Rattle.occ_syntax.specs.declared.scope.Program.{Program}
use Rattle.occ_syntax.specs.View.{tree}
use Rattle.occ_script.specs.declared.content.Content.{Content}
use Rattle.occ_script.specs.declared.content.Content.TheVariants as content
use Rattle.occ_script.specs.declared.script.Script.{Script}
use Rattle.occ_script.specs.declared.script.Step.{Step}
use Rattle.occ_script.specs.Lines.{AreJudged, IsWell, named_in}
use Rattle.occ_script.specs.Steps.{AreSteps}
use Rattle.occ_script_lines.specs.declared.section.Format.{Format}
use Rattle.occ_script_lines.specs.declared.section.Format.TheVariants as format
use Rattle.occ_script_lines.specs.Lines.{is_line}
use Rattle.occ_script_lines.specs.Sections.{Section, framed, is_blank_in, sections_of}

-- a text has at most 4,194,304 bytes
abbrev pub is_too_long : List ℕ → Bool
is_too_long text = nat_lt 4194304 (length text)

-- the first line of the format, and that of the version before
abbrev pub first_line : Format → List ℕ
first_line format.Script = codes "occam-script 2"
first_line format.Orders = codes "occam-orders 2"

abbrev pub old_line : Format → List ℕ
old_line format.Script = codes "occam-script 1"
old_line format.Orders = codes "occam-orders 1"

-- the first line names the format, and no line stands between it and the next keyword line
pub record IsHead (f : Format) (old : List (List ℕ)) (s : Section) : Type 0 where
  pub line : is_line (first_line f) s.row ≡ true
  pub empty : AreJudged content.Part old s [] None

-- The lines of a section are in order as those of a program. That is read from a text of its own, in which all in front of these
-- lines is blank.
pub record IsInOrder (k : Content) (old : List (List ℕ)) (s : Section) (text : List ℕ) : Type 0 where
  pub there : is_blank_in s ≡ false
  pub well : IsWell k old s
  pub text_is : text ≡ framed s

-- Sections are steps, and then the program behind TO, in order.
pub record IsEnd (old new : List (List ℕ)) (sections : List Section) (steps : List Step) (to : List ℕ) : Type 0 where
  pub target : Section
  pub between : List (List ℕ)
  pub are_steps : AreSteps old between sections (target ∷ []) steps
  pub line : is_line (codes "TO") target.row ≡ true
  pub lines : IsInOrder content.Last between target to
  pub table : new ≡ named_in target between

-- Sections are the program behind FROM, steps, and the program behind TO, in order.
pub record IsDerivation (old new : List (List ℕ)) (sections : List Section) (from : List ℕ) (steps : List Step) (to : List ℕ) : Type 0 where
  pub source : Section
  pub rest : List Section
  pub parts : sections ≡ source ∷ rest
  pub line : is_line (codes "FROM") source.row ≡ true
  pub lines : IsInOrder content.First old source from
  pub is_end : IsEnd (named_in source old) new rest steps to

-- All lines of a text are in order as those of a script. The table has grown by the names of all of them.
pub record IsFormed (text : List ℕ) (old new : List (List ℕ)) (from : List ℕ) (steps : List Step) (to : List ℕ) : Type 0 where
  pub head : Section
  pub rest : List Section
  pub parts : sections_of format.Script text ≡ head ∷ rest
  pub is_head : IsHead format.Script old head
  pub derivation : IsDerivation (named_in head old) new rest from steps to

-- a text reads as a program
abbrev pub IsProgram : Bound → List ℕ → List (List ℕ) → List (List ℕ) → Program → List ℕ → Type 0
IsProgram b text old new program numbers = IsRead b text old new program.name program.params (tree program.body) numbers

-- The text is a script.
pub record IsScript (text : List ℕ) (old new : List (List ℕ)) (script : Script) : Type 0 where
  pub short : is_too_long text ≡ false
  pub from : List ℕ
  pub to : List ℕ
  pub formed_table : List (List ℕ)
  pub formed : IsFormed text old formed_table from script.steps to
  pub between : List (List ℕ)
  pub is_from : IsProgram bound.First from formed_table between script.from.program script.from.lines
  pub numbers : List ℕ
  pub is_to : IsProgram bound.Script to between new script.to numbers
