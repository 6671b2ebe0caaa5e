-- The laws of a script's steps are of the table.
use Rattle.std.proofs.Common.{ℕ, List, Option, None, Some}
use Rattle.std.specs.List.{All, AllByRecursion}
use Rattle.std.proofs.lemmas.List.Elements.{All-from_recursion}
use Rattle.occ_tool_run.specs.occ_law.declared.table.LawId.{LawId}
use Rattle.occ_tool_run.specs.occ_script.declared.script.Script.{Script}
use Rattle.occ_tool_run.specs.occ_script.declared.script.Step.{Step}
use Rattle.occ_tool_run.specs.occ_script.Scripts.{IsScript}
use Rattle.occ_tool_run.specs.occ_script.Steps.{AreSteps, IsLaw, and_step, no_step}
use Rattle.occ_tool_run.specs.occ_script_lines.Sections.{Section}
use Rattle.occ_draw.specs.Stopping.{HasLaw, IsOfTable}

of_table : (name : List ℕ) (law : Option LawId) → IsLaw name law → IsOfTable law
of_table name None is = tt
of_table name (Some law) is = record { low = is.low; high = is.high }

have_laws : {old new : List (List ℕ)} {ss rest : List Section} {steps : List Step} → AreSteps old new ss rest steps → AllByRecursion HasLaw steps
have_laws (no_step old rest) = tt
have_laws (and_step old t new s ss rest step steps other is more) = (of_table is.name step.law is.law, have_laws more)

pub laws_read : (text : List ℕ) (old new : List (List ℕ)) (script : Script) → IsScript text old new script → All HasLaw script.steps
laws_read text old new script is =
    let end = is.formed.derivation.is_end in
    All-from_recursion HasLaw script.steps (have_laws end.are_steps)
