use Rattle.std.proofs.Common.{◌++◌, ap, ◌∙◌}
use Rattle.std.specs.Prelude.{codes}
use Rattle.std.specs.List.{flat_map}
use Rattle.occ_nform_rows.specs.occ_nform_table.Texts.{rows_text, states_text}
use Rattle.occ_nform.specs.Lines.{param_line}
use Rattle.occ_nform.proofs.Texts.{table_is}
use Rattle.occ_nform.proofs.text.table_text.Goals as goal

pub returns-clause-text : goal.returns-clause-text
returns-clause-text c =
    let names = c.args.names.now in
    let table = c.args.table.now in
    table_is names table.params table.rows table.states c.extend_from_slice.new.self.items c.push_params.new.text.items c.push_rows.new.text.items c.push_states.new.text.items
    (c.in_ok-extend_from_slice.ensures.items ∙ ap (λ l. l ++ codes "occam-normal 1\n") c.new-text.ensures.items)
    (c.in_ok-push_params.ensures.lines ∙ ap (λ ps. c.extend_from_slice.new.self.items ++ flat_map (param_line names) ps) c.items-params.ensures)
    (c.in_ok-push_rows.ensures ∙ ap (λ rs. c.push_params.new.text.items ++ rows_text names 0 rs) c.items.ensures)
    (c.in_ok-push_states.ensures ∙ (λ i. c.push_rows.new.text.items ++ states_text (c.items-params.ensures i) 0 (c.items-2.ensures i)))
