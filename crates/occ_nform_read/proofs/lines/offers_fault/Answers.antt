use Rattle.std.proofs.Common.{ℕ, ◌∙◌}
use Rattle.occ_syntax.specs.occ_base.declared.event.Event.{Event}
use Rattle.occ_nform_table.specs.Lines.{rank}
use Rattle.occ_nform_read.proofs.Faults.{by_places}
use Rattle.occ_nform_read.proofs.lines.offers_fault.Goals as goal

pub returns : goal.returns
returns c = by_places (λ (o : Event × ℕ). rank c.args.params.now o.0) c.args.line c.args.offers.now c.as_slice.result.now c.order_fault.result (c.as_slice.ensures.value ∙ c.in_ok-ranks.ensures) c.order_fault.ensures
