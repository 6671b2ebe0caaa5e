-- A written script that reads back as a whole.
use Rattle.std.specs.Prelude.{ℕ, List}
use Rattle.std.specs.List.{AllByRecursion}
use Rattle.occ_print_back.specs.occ_parse.declared.bound.Bound.TheVariants as bound
use Rattle.occ_print_back.specs.occ_parse_rules.Places.{Place}
use Rattle.occ_print_back.specs.Back.{IsNarrow}
use Rattle.occ_print_back.specs.Program.{IsPrintable}
use Rattle.occ_script_back.specs.Tables.{Grows}
use Rattle.occ_script_back.specs.Limits.{IsWithin}
use Rattle.occ_script.specs.declared.script.Script.{Script}
use Rattle.occ_script_write.specs.declared.writing.Done.{Done}
use Rattle.occ_script_back.specs.Programs.{IsProgramOf}
use Rattle.occ_script_back.specs.Reads.{AreStepsOf, IsStepWell}
use Rattle.occ_script_write.specs.occ_syntax.declared.scope.Program.{Program}
use Rattle.occ_script_write.specs.occ_syntax.View.{tree}

-- All of a script is printed from a table of names, and within what binds it where it is read: all limits of programs bind the one
-- behind FROM, and no line has more than 4,096 tokens.
pub record AreWrittenWell (names : List (List ℕ)) (P : ℕ → Place) (from : Program) (steps : List Done) (to : Program) : Type 0 where
  pub from_is : IsPrintable names P from.name.0 from.params (tree from.body)
  pub from_within : IsWithin bound.First from.name.0 from.params (tree from.body)
  pub steps_are : AllByRecursion (IsStepWell names P) steps
  pub to_is : IsPrintable names P to.name.0 to.params (tree to.body)
  pub to_narrow : IsNarrow to.name.0 to.params (tree to.body)

-- A script that is read is the one that was written: its programs, and its steps one by one. The table of names that is left has
-- grown from the one that it was printed from.
pub record IsScriptOf (names : List (List ℕ)) (P : ℕ → Place) (from : Program) (steps : List Done) (to : Program) (new : List (List ℕ))
    (script : Script) : Type 0 where
  pub from_is : IsProgramOf from script.from.program
  pub steps_are : AreStepsOf names P steps script.steps
  pub to_is : IsProgramOf to script.to
  pub grows : Grows names P new
