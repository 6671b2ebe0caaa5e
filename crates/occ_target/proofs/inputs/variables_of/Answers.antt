use Rattle.std.proofs.Common.{◌∙◌}
use Rattle.occ_target.proofs.Named.{named_more, named_same, names_all, names_in, names_out, variables_all, variables_in, variables_out}
use Rattle.occ_target.proofs.inputs.variables_of.Goals as goal
use Rattle.occ_target.proofs.inputs.variables_of.Goals.{then-is_input_width+in_ok-name+in_ok-push, else-is_input_width}

pub loop-width-preserved : goal.loop-width-preserved
loop-width-preserved c =
    let inv = c.loop-width.invariant in
    elim c.if-is_input_width.branch [
      | then-is_input_width+in_ok-name+in_ok-push w ↦ record {
        named = named_more c.loop-width.names c.if-is_input_width.names _ c.args.params.now (w.names-is ∙ w.in_ok-name.ensures.table) inv.named;
        variables = variables_in c.loop-width.names c.if-is_input_width.names c.args.params.now c.args.widths.now c.loop-width.width-index _ c.is_input_width.result _ c.loop-width.inputs c.if-is_input_width.inputs _
            c.loop-width-test.true c.is_input_width.ensures w.if-is_input_width.true w.in_ok-name.ensures.name (w.names-is ∙ w.in_ok-name.ensures.table) (w.inputs-is ∙ w.in_ok-push.ensures.ok) inv.variables;
        names = names_in c.loop-width.names c.if-is_input_width.names c.args.params.now c.args.widths.now c.loop-width.width-index _ c.is_input_width.result _
            c.loop-width-test.true c.is_input_width.ensures w.if-is_input_width.true (w.names-is ∙ w.in_ok-name.ensures.table) inv.names;
      }
      | else-is_input_width w ↦ record {
        named = named_same c.loop-width.names c.if-is_input_width.names c.args.params.now w.names-is inv.named;
        variables = variables_out c.loop-width.names c.if-is_input_width.names c.args.params.now c.args.widths.now c.loop-width.width-index _ c.is_input_width.result c.loop-width.inputs c.if-is_input_width.inputs _
            c.loop-width-test.true c.is_input_width.ensures w.if-is_input_width.false w.names-is w.inputs-is inv.variables;
        names = names_out c.loop-width.names c.if-is_input_width.names c.args.params.now c.args.widths.now c.loop-width.width-index _ c.is_input_width.result _
            c.loop-width-test.true c.is_input_width.ensures w.if-is_input_width.false w.names-is inv.names;
      }
    ]

pub returns-clause-variables : goal.returns-clause-variables
returns-clause-variables c = variables_all c.loop-width.names c.args.params.now c.args.widths.now c.loop-width.width-index c.loop-width.inputs _ c.loop-width-test.false c.loop-width.invariant.variables

pub returns-clause-table : goal.returns-clause-table
returns-clause-table c = names_all c.loop-width.names c.args.params.now c.args.widths.now c.loop-width.width-index _ c.loop-width-test.false c.loop-width.invariant.names
