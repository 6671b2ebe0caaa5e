-- Normal programs that were derived.
use Rattle.std.proofs.Common.{◌≤◌, ℕ, List, Result, Ok, Err, IfOk, refl, sym, subst}
use Rattle.occ_syntax.specs.occ_base.declared.memory.Memory.{Memory}
use Rattle.occ_derive.specs.Derived.{CanBeWritten as IsDerivedIn, IsDerivation}
use Rattle.occ_engine_written.specs.occ_engine.declared.outcome.Outcome.{Outcome}
use Rattle.occ_replay.specs.occ_lex.Growth.{GrowsByNames}
use Rattle.occ_read_renamed.specs.occ_nform.Tabled.{IsTableOf}
use Rattle.occ_run_schedule.specs.occ_nform_table.declared.table.Table.{Table}
use Rattle.occ_syntax.specs.Counts.{controls}
use Rattle.occ_syntax.specs.declared.scope.Program.{Program}
use Rattle.occ_syntax.specs.Tree.{Tree}
use Rattle.occ_syntax.specs.View.{tree}
use Rattle.occ_derive.specs.occ_target.Inputs.{input_names}
use Rattle.occ_derive.specs.occ_target.Program.{normal_body}
use Rattle.occ_tool_run.specs.declared.answer.Answer.{Answer}
use Rattle.occ_tool_run.specs.Derived.{IsDerived, IsNormalBody, derived}
use Rattle.occ_tool_run.specs.Transformed.{CanBeWritten}
use Rattle.occ_tool_run.specs.Transforms.{IsScriptOf}

-- the body of the normal program that a table gives
pub normal_body_of : (names : List (List ℕ)) (p : Program) (t : Table) → IsTableOf names p.params (tree p.body) t
    → IsNormalBody names p (normal_body names t.params t.rows t.states)
normal_body_of names p t is = record { table = t; is = is; body_is = refl }

-- what was derived has known names
pub derived_written : (names : List (List ℕ)) (p : Program) (o : Outcome) → IsDerivedIn names p o → CanBeWritten names p o
derived_written names p o h = record { first = h.first; steps = h.steps; last = h.last }

-- and is written as a script
pub derived_script : (r : Result Answer Memory) (names new : List (List ℕ)) (p : Program) (o : Outcome) (body : Tree) → IsNormalBody names p body
    → controls body ≤ 4096 → IsDerivation p body o → GrowsByNames names new → GrowsByNames (input_names names p.params) new → IsDerivedIn new p o → IfOk r (IsScriptOf new p o.steps o.to) → IfOk r (IsDerived names p)
derived_script (Ok a) names new p o body n few d g v w h =
    derived new o.steps o.to (subst (IsNormalBody names p) (sym d.to_is) n) (subst (λ b. controls b ≤ 4096) (sym d.to_is) few) d.outcome_is.steps
    (record { grown = g; written = w.steps; said = w.said }) v h
derived_script (Err m) names new p o body n few d g v w h = tt
