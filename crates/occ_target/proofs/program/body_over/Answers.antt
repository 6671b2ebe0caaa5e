use Rattle.std.proofs.Common.{ap, ◌∙◌}
use Rattle.occ_syntax.specs.Declarations.{declaring_all}
use Rattle.occ_syntax.specs.View.{cases, in_choices, in_procs}
use Rattle.occ_syntax.proofs.Views.{tree-If}
use Rattle.occ_target.proofs.Built.{body_is}
use Rattle.occ_target.proofs.program.body_over.Goals as goal

pub returns : goal.returns
returns c = c.in_ok-body.ensures ∙ ap (declaring_all c.args.inputs.now) (tree-If c.in_ok-made.made
    ∙ body_is c.args.table.now.params c.items-params.result.now c.args.inputs.now c.args.table.now.rows c.items-rows.result.now c.args.table.now.states c.items-states.result.now (in_procs c.in_ok-parts.parts) c.items.result.now
    (cases (in_choices c.in_ok-made.made)) c.items-params.ensures c.items-rows.ensures c.items-states.ensures c.items.ensures c.in_ok-parts.ensures.parts c.in_ok-made.ensures)
