-- The steps that are read from the sections of a written script.
use Rattle.std.specs.Prelude.{ℕ, ◌≡◌, List, [], ◌∷◌, ◌++◌, Some, None}
use Rattle.occ_script_write.specs.occ_base.declared.names.Name.{Name}
use Rattle.occ_script.specs.occ_parse_part.Resolving.{part_fault, part_process}
use Rattle.occ_script.specs.occ_parse_part.Shown.{part_of}
use Rattle.occ_print_back.specs.occ_parse_rules.Places.{Place}
use Rattle.occ_script_back.specs.Part.{IsPrintablePart, PartIsNarrow}
use Rattle.occ_script_back.specs.Tables.{Grows}
use Rattle.occ_script.specs.declared.fault.ScriptFault.{ScriptFault}
use Rattle.occ_script.specs.declared.script.Step.{Step}
use Rattle.occ_script.specs.Refusals.{IsBadTarget}
use Rattle.occ_script_write.specs.occ_script_lines.Sections.{Section}
use Rattle.occ_script_write.specs.declared.writing.Done.{Done}
use Rattle.occ_script_back.specs.Chunks.{Chunk}
use Rattle.occ_script_back.specs.Said.{IsStepWritten}
use Rattle.occ_script_write.specs.occ_syntax.declared.scope.Kind.{Kind}
use Rattle.occ_script_write.specs.occ_syntax.View.{tree}

-- in a scope a step's part has no fault, and stands for the part that was written
pub record Resolves (scope : List (Name × Kind)) (done : Done) (step : Step) : Type 0 where
  pub faultless : part_fault (part_of step.part) scope ≡ None
  pub stands : part_process (part_of step.part) scope ≡ tree done.part

-- A step that is read has the law, the direction and the path of the one that was written, and in each scope in which that one's part
-- keeps types it stands for it.
pub record IsStepOf (names : List (List ℕ)) (P : ℕ → Place) (done : Done) (step : Step) : Type 0 where
  pub law : step.law ≡ Some done.law
  pub dir : step.dir ≡ done.dir
  pub path : step.path ≡ done.path
  pub resolves : (scope : List (Name × Kind)) → IsPrintablePart names P scope (tree done.part) → Resolves scope done step

-- one by one
abbrev pub AreStepsOf : List (List ℕ) → (ℕ → Place) → List Done → List Step → Type 0
AreStepsOf names P [] [] = Unit {0}
AreStepsOf names P [] (s ∷ steps) = ⊥
AreStepsOf names P (d ∷ dones) [] = ⊥
AreStepsOf names P (d ∷ dones) (s ∷ steps) = IsStepOf names P d s × AreStepsOf names P dones steps

-- a step that is written, no line of whose part has more tokens than a line may have
pub record IsStepWell (names : List (List ℕ)) (P : ℕ → Place) (done : Done) : Type 0 where
  pub written : IsStepWritten names P done
  pub narrow : PartIsNarrow (tree done.part)

-- a section has this line and this text, and its line stands at the end of all in front of the text
pub record IsSectionOf (c : Chunk) (s : Section) : Type 0 where
  pub row : s.row ≡ c.row
  pub body : s.body ≡ c.body
  pub before : List ℕ
  pub front : s.front ≡ before ++ c.row

-- Steps are read as those that were written, up to a last section. The table that is left is one of places again, with the names that
-- were there.
pub record AreRead (names : List (List ℕ)) (P : ℕ → Place) (new : List (List ℕ)) (dones : List Done) (steps : List Step) (c : Chunk) (target : Section) : Type 0 where
  pub steps_are : AreStepsOf names P dones steps
  pub last : IsSectionOf c target
  pub grows : Grows names P new

-- A fault of sections is one of the last of them, which has this line and this text and is to be the program behind TO; all in front of
-- it is read, and the table that it is read with is one of places again.
pub record IsFaultOfLast (names : List (List ℕ)) (P : ℕ → Place) (c : Chunk) (last : ℕ) (e : ScriptFault) : Type 0 where
  pub table : List (List ℕ)
  pub target : Section
  pub is_last : IsSectionOf c target
  pub grows : Grows names P table
  pub bad : IsBadTarget last table target [] e
