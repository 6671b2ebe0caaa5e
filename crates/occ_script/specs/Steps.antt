-- The steps of a script as they are read.
use Rattle.std.specs.Prelude.{ℕ, ◌≡◌, false, List, [], ◌∷◌, Option, Some, None, codes}
use Rattle.occ_law.specs.declared.table.LawId.{LawId}
use Rattle.occ_law.specs.Table.{IsNamed}
use Rattle.occ_parse_part.specs.declared.raw.Raw.{Raw}
use Rattle.occ_parse_part.specs.Arrays.{array_names}
use Rattle.occ_parse_part.specs.Elements.{elements_in, with_arrays}
use Rattle.occ_parse_part.specs.Parts.{IsPart}
use Rattle.occ_parse_part.specs.Shown.{elements_of, lines_of}
use Rattle.occ_parse_part.specs.occ_parse.declared.fault.ParseFault.{ParseFault}
use Rattle.occ_parse_part.specs.occ_parse_rules.Forest.{Laid, lines_at}
use Rattle.occ_script.specs.declared.content.Content.TheVariants as content
use Rattle.occ_script.specs.declared.script.Step.{Step}
use Rattle.occ_script.specs.Lines.{AreJudged, IsWell, lacks_part, named_in}
use Rattle.occ_script_lines.specs.Lines.{head_of, is_line}
use Rattle.occ_script_lines.specs.Sections.{Section, reading_in, upto}

-- the law of a name, None where the table has none of that name
abbrev pub IsLaw : List ℕ → Option LawId → Type 0
IsLaw name None = (law : LawId) → IsNamed law name → ⊥
IsLaw name (Some law) = IsNamed law name

-- a section has a line at level 1 where its part is to begin
pub record HasPart (old : List (List ℕ)) (s : Section) : Type 0 where
  pub laid : List Laid
  pub stop : Option ParseFault
  pub judged : AreJudged content.Part old s laid stop
  pub there : lacks_part laid stop ≡ false

-- The lines of a section are those of a part. They are read with the names of all of them in the table, behind which the elements
-- of the arrays that they name stand then.
pub record IsPartIn (old new : List (List ℕ)) (s : Section) (part : Raw) : Type 0 where
  pub well : IsWell content.Part old s
  pub lines : IsPart (upto s) (named_in s old) (reading_in s).0 (lines_of part)
  pub table : new ≡ with_arrays (named_in s (named_in s old)) (array_names (lines_at 1 (lines_of part)))
  pub elements : elements_of part ≡ elements_in new (array_names (lines_at 1 (lines_of part)))

-- The section is a step, with which the table grows from old to new.
pub record IsStep (old new : List (List ℕ)) (s : Section) (step : Step) : Type 0 where
  pub name : List ℕ
  pub head : head_of (codes "STEP") s.row ≡ Some (record { law = name; dir = step.dir; path = step.path })
  pub law : IsLaw name step.law
  pub has_part : HasPart old s
  pub part : IsPartIn old new s step.part

-- Sections are steps, one by one, up to others. The table grows from the first to the second.
pub data AreSteps : List (List ℕ) → List (List ℕ) → List Section → List Section → List Step → Type 0 where
  no_step : (old : List (List ℕ)) (rest : List Section) → AreSteps old old rest rest []
  and_step : (old t new : List (List ℕ)) (s : Section) (ss rest : List Section) (step : Step) (steps : List Step) → is_line (codes "TO") s.row ≡ false → IsStep old t s step
      → AreSteps t new ss rest steps → AreSteps old new (s ∷ ss) rest (step ∷ steps)
