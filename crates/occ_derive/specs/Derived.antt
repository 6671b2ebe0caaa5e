-- Derivations of normal programs.
use Rattle.std.specs.Prelude.{ℕ, ◌≡◌, ◌≤◌, List}
use Rattle.std.specs.List.{AllByRecursion}
use Rattle.occ_derive_search.specs.Derivations.{IsDerived}
use Rattle.occ_derive_search.specs.occ_engine.declared.outcome.Outcome.{Outcome}
use Rattle.occ_derive_search.specs.occ_nform_table.Behaviours.{Stands}
use Rattle.occ_derive_search.specs.occ_nform_table.declared.table.Table.{Table}
use Rattle.occ_derive_search.specs.occ_nform_table.Tables.{IsNormal}
use Rattle.occ_script_back.specs.occ_print.Known.{ProgramIsKnown}
use Rattle.occ_script_back.specs.occ_print.Greatest.{greatest}
use Rattle.occ_script_back.specs.occ_script_write.declared.writing.Done.{Done}
use Rattle.occ_script_back.specs.occ_script_write.Text.{IsWritable}
use Rattle.occ_script_back.specs.Said.{IsSaid, IsShortPath}
use Rattle.occ_syntax.specs.occ_base.declared.names.Name.{Name}
use Rattle.occ_syntax.specs.declared.scope.Kind.{Kind}
use Rattle.occ_syntax.specs.declared.scope.Program.{Program}
use Rattle.occ_syntax.specs.Tree.{Tree}
use Rattle.occ_syntax.specs.View.{tree}
use Rattle.occ_derive_search.specs.occ_target.Program.{normal_body}

-- Steps lead from a program to one with that body, each by a law of the table.
pub record IsDerivation (from : Program) (body : Tree) (outcome : Outcome) : Type 0 where
  pub outcome_is : IsDerived from outcome
  pub to_is : tree outcome.to.body ≡ body

-- no name of a step's part has a number above this one, and its path is short
pub record IsBelow (last : ℕ) (done : Done) : Type 0 where
  pub part : greatest (tree done.part) 0 ≤ last
  pub path : IsShortPath done.path

abbrev pub ParamIsBelow : ℕ → Name × Kind → Type 0
ParamIsBelow last p = p.0.0 ≤ last

-- no name of a program has one
pub record ProgramIsBelow (last : ℕ) (program : Program) : Type 0 where
  pub name : program.name.0 ≤ last
  pub params : AllByRecursion (ParamIsBelow last) program.params
  pub body : greatest (tree program.body) 0 ≤ last

-- nor any of a program, of the steps from it, and of the program to which they lead
pub record AreBelow (last : ℕ) (from : Program) (outcome : Outcome) : Type 0 where
  pub first : ProgramIsBelow last from
  pub steps : AllByRecursion (IsBelow last) outcome.steps
  pub to : ProgramIsBelow last outcome.to

-- the body of the normal program of a table
abbrev pub normal_of : List (List ℕ) → Table → Tree
normal_of names table = normal_body names table.params table.rows table.states

-- the table stands for a program
abbrev pub StandsFor : Table → Program → Type 0
StandsFor table program = Stands program.params table.rows table.states (tree program.body)

-- the table is normal with these names
abbrev pub IsNormalWith : List (List ℕ) → Table → Type 0
IsNormalWith names table = IsNormal (record { names = names; params = table.params; rows = table.rows; states = table.states })

-- all names of a program stand in the table of names
abbrev pub IsProgramOf : List (List ℕ) → Program → Type 0
IsProgramOf names program = ProgramIsKnown names program.name.0 program.params (tree program.body)

-- and so do those of the steps, whose lines can be read, and of the program to which they lead
pub record CanBeWritten (names : List (List ℕ)) (from : Program) (outcome : Outcome) : Type 0 where
  pub first : IsProgramOf names from
  pub steps : AllByRecursion (IsWritable names) outcome.steps
  pub said : AllByRecursion IsSaid outcome.steps
  pub last : IsProgramOf names outcome.to
