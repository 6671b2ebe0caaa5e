-- What is known of names where a program is transformed, and the answers to what an engine refuses.
use Rattle.std.specs.Prelude.{ℕ, ◌≡◌, ◌≢◌, ◌<◌, List, length}
use Rattle.std.specs.List.{AllByRecursion}
use Rattle.occ_engine_written.specs.occ_engine.declared.fault.EngineFault.{EngineFault}
use Rattle.occ_engine_written.specs.occ_engine.declared.fault.EngineFault.TheVariants as engine
use Rattle.occ_engine_written.specs.occ_engine.declared.outcome.Outcome.{Outcome}
use Rattle.occ_engine_written.specs.occ_engine_known.Known.{NamesAreBelow}
use Rattle.occ_replay.specs.occ_print.Known.{ProgramIsKnown}
use Rattle.occ_replay.specs.occ_script.declared.fault.ScriptFault.{ScriptFault}
use Rattle.occ_replay.specs.occ_script.declared.fault.ScriptFault.TheVariants as script
use Rattle.occ_derive.specs.occ_script_write.Text.{IsWritable}
use Rattle.occ_syntax.specs.declared.scope.Program.{Program}
use Rattle.occ_syntax.specs.View.{tree}
use Rattle.occ_tool_run.specs.declared.answer.Answer.{Answer}
use Rattle.occ_tool_run.specs.declared.answer.Answer.TheVariants.{RefusedOrder, RefusedOrders, RefusedPath}
use Rattle.occ_tool_run.specs.declared.reason.Reason.TheVariants.{NoLaw, NoPath, NotPar, NotAccepted, NotApplicable}

-- the name of a program has a text in the table, and so have those of its parameters and those that it declares
pub record HasKnownNames (names : List (List ℕ)) (program : Program) : Type 0 where
  pub name : program.name.0 < length names
  pub below : NamesAreBelow (length names) program.params (tree program.body)

-- all names of a program, of what an engine made of it, and of the steps between have texts in the table
pub record CanBeWritten (names : List (List ℕ)) (from : Program) (outcome : Outcome) : Type 0 where
  pub first : ProgramIsKnown names from.name.0 from.params (tree from.body)
  pub steps : AllByRecursion (IsWritable names) outcome.steps
  pub last : ProgramIsKnown names outcome.to.name.0 outcome.to.params (tree outcome.to.body)

-- the answer that refuses a text as orders
abbrev pub IsOrdersRefusal : ScriptFault → Answer → Type 0
IsOrdersRefusal fault answer = (answer ≡ RefusedOrders fault) × (fault ≢ script.Memory)

-- the answer that refuses an order
abbrev pub IsOrderRefusal : EngineFault → Answer → Type 0
IsOrderRefusal (engine.NoLaw k) answer = answer ≡ RefusedOrder k NoLaw
IsOrderRefusal (engine.NoPath k) answer = answer ≡ RefusedOrder k NoPath
IsOrderRefusal (engine.NotAccepted k) answer = answer ≡ RefusedOrder k NotAccepted
IsOrderRefusal (engine.NotApplicable k) answer = answer ≡ RefusedOrder k NotApplicable
IsOrderRefusal engine.NotPar answer = ⊥
IsOrderRefusal engine.Memory answer = ⊥

-- a fault that an expansion can have
abbrev pub IsOfExpansion : EngineFault → Type 0
IsOfExpansion (engine.NoLaw k) = ⊥
IsOfExpansion (engine.NoPath k) = Unit {0}
IsOfExpansion (engine.NotAccepted k) = Unit {0}
IsOfExpansion (engine.NotApplicable k) = ⊥
IsOfExpansion engine.NotPar = Unit {0}
IsOfExpansion engine.Memory = Unit {0}

-- the answer that refuses the path of an expansion
abbrev pub IsPathRefusal : EngineFault → Answer → Type 0
IsPathRefusal (engine.NoLaw k) answer = ⊥
IsPathRefusal (engine.NoPath k) answer = answer ≡ RefusedPath NoPath
IsPathRefusal (engine.NotAccepted k) answer = answer ≡ RefusedPath NotAccepted
IsPathRefusal (engine.NotApplicable k) answer = ⊥
IsPathRefusal engine.NotPar answer = answer ≡ RefusedPath NotPar
IsPathRefusal engine.Memory answer = ⊥
