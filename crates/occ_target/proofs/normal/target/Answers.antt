use Rattle.std.proofs.Common.{ap, ◌∙◌}
use Rattle.occ_target.specs.Inputs.{input_variables}
use Rattle.occ_target.specs.Program.{body_over}
use Rattle.occ_target.proofs.Below.{all_below}
use Rattle.occ_target.proofs.normal.target.Goals as goal

pub table_size-requires : goal.table_size-requires
table_size-requires c = record { rows = c.requires.normal.rows; states = all_below _ _ c.requires.normal.states }

pub body_over-requires : goal.body_over-requires
body_over-requires c = record { wide = c.requires.normal.interface.wide; few = c.requires.normal.interface.bits; rows = c.requires.normal.rows; states = all_below _ _ c.requires.normal.states }

pub returns-clause-body : goal.returns-clause-body
returns-clause-body c = c.in_ok-body.ensures ∙ ap (λ ts. body_over c.args.table.now.params ts c.args.table.now.rows c.args.table.now.states)
    (c.items.ensures ∙ c.in_ok-inputs.ensures.variables ∙ ap (input_variables c.args.names.now) c.items-params.ensures)
