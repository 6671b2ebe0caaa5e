use Rattle.std.proofs.Common.{ap, [], ◌∙◌}
use Rattle.occ_target.specs.Sizes.{sizes_from}
use Rattle.occ_target.proofs.Counted.{table_counted}
use Rattle.occ_target.proofs.count.table_size.Goals as goal

pub returns : goal.returns
returns c = table_counted c.args._names.now c.args.table.now.params c.items-params.result.now c.args.table.now.rows c.args.table.now.states c.items-states.result.now c.in_ok-sizes.sizes c.items.result.now
    c.states_size-choices.result c.saturating_add.result c.width_count-inputs.result c.saturating_add-count.result c.items-params.ensures c.items-states.ensures c.items.ensures (c.in_ok-sizes.ensures.sizes ∙ ap (sizes_from []) c.items-rows.ensures)
    c.states_size-choices.ensures c.saturating_add.ensures c.width_count-inputs.ensures c.saturating_add-count.ensures
