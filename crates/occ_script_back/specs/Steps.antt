-- The section of a written step, and the step that is read there.
use Rattle.std.specs.Prelude.{ℕ, ◌≡◌, ◌+◌, List, Some, None}
use Rattle.occ_script_write.specs.occ_base.declared.names.Name.{Name}
use Rattle.occ_script.specs.occ_parse_part.Resolving.{part_fault, part_process}
use Rattle.occ_script.specs.occ_parse_part.Shown.{part_of}
use Rattle.occ_print_back.specs.occ_parse_rules.Places.{Place}
use Rattle.occ_script_write.specs.occ_print.Spelled.{part_text}
use Rattle.occ_script_back.specs.Part.{table_behind}
use Rattle.occ_script_back.specs.Tables.{Grows}
use Rattle.occ_script.specs.declared.fault.ScriptFault.{ScriptFault}
use Rattle.occ_script.specs.declared.script.Step.{Step}
use Rattle.occ_script.specs.Refusals.{IsBadStep}
use Rattle.occ_script.specs.Steps.{IsStep}
use Rattle.occ_script_write.specs.occ_script_lines.Sections.{Section}
use Rattle.occ_script_write.specs.declared.writing.Done.{Done}
use Rattle.occ_script_write.specs.Text.{line, step_words}
use Rattle.occ_script_write.specs.occ_syntax.declared.scope.Kind.{Kind}
use Rattle.occ_script_write.specs.occ_syntax.View.{tree}

-- a step on a line of this number, with this text in front of its part
abbrev pub step_section : List (List ℕ) → ℕ → List ℕ → Done → Section
step_section names n front done =
    record { number = n; row = line (step_words done); front = front; body = part_text names 1 (tree done.part) }

-- A step that is read is the one that was written: it has its law, its direction and its path, and its part has no fault in the
-- scope and stands there for the part that was written. The table of names has grown by the elements of the part's arrays.
pub record IsThatStep (names : List (List ℕ)) (P : ℕ → Place) (scope : List (Name × Kind)) (n : ℕ) (done : Done) (new : List (List ℕ)) (step : Step) : Type 0 where
  pub law : step.law ≡ Some done.law
  pub dir : step.dir ≡ done.dir
  pub path : step.path ≡ done.path
  pub faultless : part_fault (part_of step.part) scope ≡ None
  pub stands : part_process (part_of step.part) scope ≡ tree done.part
  pub table : new ≡ table_behind names P (n + 1) (tree done.part)

-- The section isn't refused, and whatever step it is read as is that one. The table that is left is one of places again.
pub record StepReadsBack (names : List (List ℕ)) (P : ℕ → Place) (scope : List (Name × Kind)) (n : ℕ) (front : List ℕ) (done : Done) : Type 0 where
  pub read : (new : List (List ℕ)) (step : Step) → IsStep names new (step_section names n front done) step → IsThatStep names P scope n done new step
  pub kept : (e : ScriptFault) → IsBadStep names (step_section names n front done) e → ⊥
  pub grows : Grows names P (table_behind names P (n + 1) (tree done.part))
