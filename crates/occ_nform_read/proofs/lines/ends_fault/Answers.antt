use Rattle.std.proofs.Common.{◌∙◌}
use Rattle.occ_nform_table.specs.Lines.{state_place}
use Rattle.occ_nform_read.proofs.Faults.{by_places}
use Rattle.occ_nform_read.proofs.lines.ends_fault.Goals as goal

pub returns : goal.returns
returns c = by_places (state_place c.args.params.now) c.args.line c.args.ends.now c.items.result.now c.order_fault.result (c.items.ensures ∙ c.in_ok-places.ensures) c.order_fault.ensures
