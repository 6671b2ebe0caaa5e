-- The answer to a program whose normal program is to be derived.
use Rattle.std.specs.Prelude.{ℕ, ◌≡◌, ◌≤◌, ◌<◌, List}
use Rattle.std.specs.List.{AllByRecursion}
use Rattle.occ_derive.specs.occ_derive_moves.Steps.{Steps}
use Rattle.occ_engine_written.specs.occ_engine.Moved.{moves_of}
use Rattle.occ_replay.specs.occ_lex.Growth.{GrowsByNames}
use Rattle.occ_read_renamed.specs.occ_nform.Tabled.{IsTableOf}
use Rattle.occ_run_schedule.specs.occ_nform_table.declared.table.Table.{Table}
use Rattle.occ_derive.specs.occ_script_write.declared.writing.Done.{Done}
use Rattle.occ_derive.specs.occ_script_write.Text.{IsWritable}
use Rattle.occ_derive.specs.occ_script_back.Said.{IsSaid}
use Rattle.occ_syntax.specs.Counts.{controls}
use Rattle.occ_syntax.specs.declared.scope.Program.{Program}
use Rattle.occ_syntax.specs.Tree.{Tree}
use Rattle.occ_syntax.specs.View.{tree}
use Rattle.occ_derive.specs.occ_target.Inputs.{input_names}
use Rattle.occ_derive.specs.occ_target.Program.{normal_body}
use Rattle.occ_tool_run.specs.declared.answer.Answer.{Answer}
use Rattle.occ_tool_run.specs.declared.answer.Answer.TheVariants.{Long}
use Rattle.occ_tool_run.specs.Transforms.{IsScriptOf}

-- The body of the normal program of a program: that of its normal table.
pub record IsNormalBody (names : List (List ℕ)) (p : Program) (body : Tree) : Type 0 where
  pub table : Table
  pub is : IsTableOf names p.params (tree p.body) table
  pub body_is : body ≡ normal_body names table.params table.rows table.states

-- The table has grown by names of the language, the names of the steps' parts stand in it, and the lines of the steps can be read.
pub record AreSteps (old new : List (List ℕ)) (steps : List Done) : Type 0 where
  pub grown : GrowsByNames old new
  pub written : AllByRecursion (IsWritable new) steps
  pub said : AllByRecursion IsSaid steps

-- The answer to an accepted program whose normal program is to be derived: it has more than 4,096 controls; or steps lead from the
-- program to it, each by a law, and the answer is the script that says so. The names of its steps are those of a table that has grown, first
-- by the names of the normal program's own variables.
pub data IsDerived (names : List (List ℕ)) (p : Program) (answer : Answer) : Type 0 where
  long : (body : Tree) → IsNormalBody names p body → 4096 < controls body → answer ≡ Long → IsDerived names p answer
  derived : (new : List (List ℕ)) (steps : List Done) (to : Program) → IsNormalBody names p (tree to.body) → controls (tree to.body) ≤ 4096
      → Steps p.params (tree p.body) (moves_of steps) (tree to.body) → AreSteps names new steps → GrowsByNames (input_names names p.params) new → IsScriptOf new p steps to answer
      → IsDerived names p answer
