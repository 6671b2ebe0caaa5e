use Rattle.std.proofs.Common.{Err, List, ap, refl, subst}
use Rattle.occ_derive.specs.occ_target.Inputs.{input_names}
use Rattle.occ_replay.specs.occ_lex.Growth.{GrowsByNames}
use Rattle.occ_syntax.specs.occ_base.declared.names.Name.{Name}
use Rattle.occ_syntax.specs.declared.scope.Kind.{Kind}
use Rattle.occ_tool_run.proofs.Deriving.{derived_script, derived_written, normal_body_of}
use Rattle.occ_tool_run.specs.Derived.{long}
use Rattle.occ_tool_run.proofs.to_normal.derive_program.Goals as goal

pub normal_table-requires-clause-interface : goal.normal_table-requires-clause-interface
normal_table-requires-clause-interface c = c.requires.interface

pub normal_table-requires-clause-params : goal.normal_table-requires-clause-params
normal_table-requires-clause-params c = c.requires.params

pub derive-requires-clause-params : goal.derive-requires-clause-params
derive-requires-clause-params c = c.in_ok-table.ensures.params_are

pub derive-requires-clause-normal : goal.derive-requires-clause-normal
derive-requires-clause-normal c = c.in_ok-table.ensures.normal

pub derive-requires-clause-stands : goal.derive-requires-clause-stands
derive-requires-clause-stands c = c.in_ok-table.ensures.stands

pub script-requires-clause-outcome : goal.script-requires-clause-outcome
script-requires-clause-outcome c = c.in-Ok.ensures.derived.outcome_is

pub script-requires-clause-known : goal.script-requires-clause-known
script-requires-clause-known c = derived_written c.derive.new.names c.args.accepted.now.program c.in-Ok.outcome c.in-Ok.ensures.writable

pub returns-in-Ok-clause-derived : goal.returns-in-Ok-clause-derived
returns-in-Ok-clause-derived c =
    let p = c.args.accepted.now.program in
    derived_script c.script.result c.args.names c.derive.new.names p c.in-Ok.outcome _ (normal_body_of c.args.names p c.in_ok-table.table c.in_ok-table.ensures)
    c.in-Ok.ensures.fits c.in-Ok.ensures.derived c.in-Ok.ensures.grown
    (subst (λ (params : List (Name × Kind)). GrowsByNames (input_names c.args.names params) c.derive.new.names) c.in_ok-table.ensures.params_are c.in-Ok.ensures.named) c.in-Ok.ensures.writable c.script.ensures.written

pub returns-in-Err-Long-clause-derived : goal.returns-in-Err-Long-clause-derived
returns-in-Err-Long-clause-derived c =
    long _ (normal_body_of c.args.names c.args.accepted.now.program c.in_ok-table.table c.in_ok-table.ensures) (c.in-Err-Long.ensures.long (ap Err c.in-Err-Long.field-0-is)) refl
