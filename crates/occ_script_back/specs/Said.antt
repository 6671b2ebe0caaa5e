-- Steps and programs whose texts can be read.
use Rattle.std.specs.Prelude.{ℕ, ◌≤◌, List}
use Rattle.std.specs.List.{AllByRecursion}
use Rattle.occ_script_write.specs.occ_base.declared.names.Name.{Name}
use Rattle.occ_print_back.specs.occ_parse_rules.Places.{Place}
use Rattle.occ_print_back.specs.Program.{IsPrintable}
use Rattle.occ_script_back.specs.Part.{IsPrintablePart}
use Rattle.occ_script_write.specs.declared.writing.Done.{Done}
use Rattle.occ_script_write.specs.occ_syntax.declared.scope.Kind.{Kind}
use Rattle.occ_script_write.specs.occ_syntax.declared.scope.Program.{Program}
use Rattle.occ_script_write.specs.occ_syntax.View.{tree}

-- the numbers of a path that a text writes have 32 bits
abbrev pub IsShortPath : List ℕ → Type 0
IsShortPath path = AllByRecursion (λ (n : ℕ). n ≤ 4294967295) path

-- the law is one of the table, and the numbers of the path are those that a path may have
pub record IsSaid (done : Done) : Type 0 where
  pub low : 1 ≤ done.law.0
  pub high : done.law.0 ≤ 63
  pub path : IsShortPath done.path

-- the line of a step can be read, and its part keeps types in some scope, with names of the table
pub record IsStepWritten (names : List (List ℕ)) (P : ℕ → Place) (done : Done) : Type 0 where
  pub said : IsSaid done
  pub scope : List (Name × Kind)
  pub printable : IsPrintablePart names P scope (tree done.part)

-- all of a script is printed from a table of names
pub record AreWritten (names : List (List ℕ)) (P : ℕ → Place) (from : Program) (steps : List Done) (to : Program) : Type 0 where
  pub from_is : IsPrintable names P from.name.0 from.params (tree from.body)
  pub steps_are : AllByRecursion (IsStepWritten names P) steps
  pub to_is : IsPrintable names P to.name.0 to.params (tree to.body)
